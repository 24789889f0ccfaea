-- Worked examples of command lines, each computed.
use Rattle.std.proofs.Common.{◌≡◌, [], ◌∷◌, Some, codes, refl}
use Rattle.clap.proofs.OnLiterals.{clap_on_literals}
use Rattle.subst_options.specs.CommandLine.{asked, option_values, options, rows_format, subst_app}
use Rattle.subst_rows.specs.declared.rows.RowsFormat.TheVariants.{Csv, Tsv}

-- `subst --set A=1 -s B=2` sets two variables, in the order of the arguments
variables_in_order : option_values (codes "set")
    (asked (codes "subst" ∷ codes "--set" ∷ codes "A=1" ∷ codes "-s" ∷ codes "B=2" ∷ []))
    ≡ codes "A=1" ∷ codes "B=2" ∷ []
unfolding asked subst_app options clap_on_literals
variables_in_order = refl

-- `subst -o a --output=b` has two outputs, so that `IsOnce` doesn't hold of its rows
two_outputs : option_values (codes "output")
    (asked (codes "subst" ∷ codes "-o" ∷ codes "a" ∷ codes "--output=b" ∷ [])) ≡ codes "a" ∷ codes "b" ∷ []
unfolding asked subst_app options clap_on_literals
two_outputs = refl

-- `subst --rows a --separator , b` has a comma between the outputs of rows
separated_rows : option_values (codes "separator")
    (asked (codes "subst" ∷ codes "--rows" ∷ codes "a" ∷ codes "--separator" ∷ codes "," ∷ codes "b" ∷ []))
    ≡ codes "," ∷ []
unfolding asked subst_app options clap_on_literals
separated_rows = refl

-- `subst --rows a.tsv b` has rows in the format of the ending
rows_by_ending : rows_format
    (asked (codes "subst" ∷ codes "--rows" ∷ codes "a.tsv" ∷ codes "b" ∷ [])) (codes "a.tsv") ≡ Some Tsv
unfolding asked subst_app options clap_on_literals
rows_by_ending = refl

-- `subst --rows=a.tsv --rows-format=csv b` has rows in the named format
rows_by_name : rows_format
    (asked (codes "subst" ∷ codes "--rows=a.tsv" ∷ codes "--rows-format=csv" ∷ codes "b" ∷ [])) (codes "a.tsv")
    ≡ Some Csv
unfolding asked subst_app options clap_on_literals
rows_by_name = refl
