-- Lemmas on the command line: the rules of `clap` for its options, and what it finds in arguments.
use Rattle.std.proofs.Common.{◌≡◌, ◌++◌, ◌+◌, ◌<◌, ◌∙◌, ℕ, Bool, true, false, List, [], ◌∷◌, get_or, length, suc, take, Option, Some, None, ap, ap₂, codes, refl, sym, arith}
use Rattle.std.proofs.lemmas.List.{append-nil, append_assoc, length-map, map-append, map_more}
use Rattle.std.specs.Borrow.{Bor}
use Rattle.std.specs.Prelude.{◌==◌, ◌&&◌, map}
use Rattle.clap.specs.Adds.{AddsConflicts}
use Rattle.clap.specs.Built.{AddsArg}
use Rattle.clap.specs.Facts.{args_of}
use Rattle.clap.specs.Simple.{App, app_of, with_rule}
use Rattle.clap.specs.Walk.{Rule, Text, is_empty, is_free_arg, rule_of}
use Rattle.clap.specs.declared.builder.action.ArgAction.TheVariants.{Append, SetTrue}
use Rattle.clap.specs.declared.builder.arg.Arg.{Arg}
use Rattle.clap.specs.declared.builder.command.Command.{Command}
use Rattle.subst_options.specs.CommandLine.{CommandOption, action_for, app_with, exclusion_of, exclusion_of_option, exclusion_of_row, exclusions, files_rule, kind_in, kind_of_uses, options, rule_of_option, rule_of_row, subst_app, value_names_of, with_rules}
use Rattle.subst_options.specs.declared.table.Row.{Row as TableRow}
use Rattle.subst_options.specs.declared.table.Uses.{Uses}
use Rattle.subst_options.specs.declared.table.Uses.TheVariants as uses

-- one of three tests decides if the others hold
decides : (first test rest : Bool) → (first && rest) ≡ true → (first && (test && rest)) ≡ test
decides true true true h = refl
decides true false true h = refl
decides true test false h = absurd cc
decides false test rest h = absurd cc

-- the rule of an argument that excludes others, and did not exclude any before
pub excluding_rule : (before after : Arg) (r : Rule) (names : List (Bor Text)) → rule_of before ≡ r
    → r.is_free ≡ true → before.conflicts.items ≡ [] → AddsConflicts before after names
    → rule_of after ≡ record r { is_free = is_empty (map (λ name. name.now) names) }
excluding_rule before after r names is free none adds =
    let listed : after.conflicts.items ≡ names = adds.1 ∙ ap (λ l. l ++ names) none in
    let long : is_empty after.conflicts.items ≡ is_empty (map (λ name. name.now) names) =
    ap is_empty listed ∙ ap (λ n. n == 0) (sym (length-map names (λ name. name.now))) in
    let freed : is_free_arg before ≡ true = ap (λ (rule : Rule). rule.is_free) is ∙ free in
    let others = rw none at freed in
    let test : is_free_arg (record before { conflicts = after.conflicts })
    ≡ is_empty (map (λ name. name.now) names) = decides _ _ _ others ∙ long in
    ap rule_of adds.0 ∙ (ap (λ (b : Bool). record (rule_of before) { is_free = b }) test
    ∙ ap (λ (rule : Rule). record rule { is_free = is_empty (map (λ name. name.now) names) }) is)

-- the rule of an option with a value
pub valued_rule : (takes : Option (Bor Text × Uses)) (t : Bor Text × Uses) (r : Rule) → takes ≡ Some t
    → record r { action = Some Append; value_names = 1 }
    ≡ record r { action = Some (action_for (kind_in takes)); value_names = value_names_of (kind_in takes) }
valued_rule takes t r is = rw is (of t.1)
  where
    of : (u : Uses) → record r { action = Some Append; value_names = 1 } ≡ record r {
      action = Some (action_for (kind_of_uses u));
      value_names = value_names_of (kind_of_uses u);
    }
    of uses.Once = refl
    of uses.Many = refl

-- the rule of a flag
pub flag_rule : (takes : Option (Bor Text × Uses)) (r : Rule) → takes ≡ None
    → record r { action = Some SetTrue; value_names = 0 }
    ≡ record r { action = Some (action_for (kind_in takes)); value_names = value_names_of (kind_in takes) }
flag_rule takes r is = rw is refl

-- a command has its rules and no more
pub no_more_rules : (app : App) → app ≡ with_rules app []
no_more_rules app =
    ap (λ rules. record app { top = record app.top { rules = rules } }) (sym (append-nil app.top.rules))

-- a command has its rules, and that of one more argument
pub more_rules : (app : App) (rows : List TableRow) (at : ℕ) (d : TableRow) (old new : App) (r : Rule)
    → at < length rows → old ≡ with_rules app (map rule_of_row (take at rows)) → new ≡ with_rule old r
    → r ≡ rule_of_row (get_or rows at d) → new ≡ with_rules app (map rule_of_row (take (at + 1) rows))
more_rules app rows at d old new r below is adds same =
    adds ∙ (ap₂ with_rule is same
    ∙ (ap (λ rules. record app { top = record app.top { rules = rules } })
    (append_assoc app.top.rules (map rule_of_row (take at rows)) (rule_of_row (get_or rows at d) ∷ []))
    ∙ ap (with_rules app) (sym (map_more rule_of_row rows at d below))))

-- the exclusions of the arguments are these and no more
pub no_more_exclusions : (es : List (Text × List Text)) → es ≡ es ++ []
no_more_exclusions es = sym (append-nil es)

-- the exclusion of an argument by its rule
pub exclusion_is : (a : Arg) (o : CommandOption) → rule_of a ≡ rule_of_option o
    → map (λ id. id.now) a.conflicts.items ≡ o.excludes → exclusion_of a ≡ exclusion_of_option o
exclusion_is a o rule excludes =
    ap₂ (λ (id : Text) (ids : List Text). (id, ids)) (ap (λ (r : Rule). r.id) rule) excludes

-- an argument that a command adds has its own exclusion
adds_exclusion : (old new : Command) (a : Arg) → AddsArg old a new
    → map exclusion_of (args_of new) ≡ map exclusion_of (args_of old) ++ (exclusion_of a ∷ [])
adds_exclusion old new a adds =
    let same : exclusion_of adds.arg ≡ exclusion_of a =
    ap₂ (λ (id : Text) (ids : List Text). (id, ids)) (ap (λ (x : Bor Text). x.now) adds.rules.id)
    (ap (map (λ x. x.now)) adds.rules.conflicts) in
    ap (map exclusion_of) adds.args ∙ (map-append exclusion_of (args_of old) (adds.arg ∷ [])
    ∙ ap (λ e. map exclusion_of (args_of old) ++ (e ∷ [])) same)

-- the exclusions with those of one more option
pub more_exclusions : (es : List (Text × List Text)) (rows : List TableRow) (at : ℕ) (d : TableRow)
    (old new : Command) (a : Arg) → at < length rows
    → map exclusion_of (args_of old) ≡ es ++ map exclusion_of_row (take at rows) → AddsArg old a new
    → exclusion_of a ≡ exclusion_of_row (get_or rows at d)
    → map exclusion_of (args_of new) ≡ es ++ map exclusion_of_row (take (at + 1) rows)
more_exclusions es rows at d old new a below is adds same =
    adds_exclusion old new a adds ∙ (ap₂ (λ l e. l ++ (e ∷ [])) is same
    ∙ (append_assoc es (map exclusion_of_row (take at rows)) (exclusion_of_row (get_or rows at d) ∷ [])
    ∙ ap (λ l. es ++ l) (sym (map_more exclusion_of_row rows at d below))))

-- the command `subst`, by its parts
pub command_app : (added : List Rule) (start before after : App) (r : Rule) → start ≡ app_with []
    → before ≡ with_rules start added → r ≡ files_rule → after ≡ with_rule before r
    → added ≡ map rule_of_option options → after ≡ subst_app
unfolding subst_app
command_app added start before after r begins is rule adds listed =
    adds ∙ ap₂ with_rule (is ∙ ap₂ with_rules begins listed) rule

-- a list is empty if a map of it is
unmapped : {X Y : Type 0} (f : X → Y) (xs : List X) → map f xs ≡ [] → xs ≡ []
unmapped f [] e = refl
unmapped f (x ∷ xs) e =
    let long : suc (length (map f xs)) ≡ 0 = ap length e in
    absurd (omega arith)

-- the exclusions of the command `subst`, by its parts
pub command_exclusions : (added : List (Text × List Text)) (start before after : Command) (files : Arg)
    → app_of start ≡ app_with []
    → map exclusion_of (args_of before) ≡ map exclusion_of (args_of start) ++ added
    → rule_of files ≡ files_rule → files.conflicts.items ≡ [] → AddsArg before files after
    → added ≡ map exclusion_of_option options
    → map exclusion_of (args_of after) ≡ exclusions
unfolding exclusions
command_exclusions added start before after files begins is rule none adds listed =
    let empty = unmapped rule_of (args_of start) (ap (λ (a : App). a.top.rules) begins) in
    let own : exclusion_of files ≡ (codes "files", []) =
    ap₂ (λ (id : Text) (ids : List Text). (id, ids)) (ap (λ (r : Rule). r.id) rule)
    (ap (map (λ (id : Bor Text). id.now)) none) in
    adds_exclusion before after files adds
    ∙ ap₂ (λ l e. l ++ (e ∷ [])) (is ∙ ap₂ (λ l r. map exclusion_of l ++ r) empty listed) own
