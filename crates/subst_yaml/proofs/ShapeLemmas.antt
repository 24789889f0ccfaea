-- A filled-in text has the shape of its source.
use Rattle.std.proofs.Common.{◌≡◌, ℕ, List, [], ◌∷◌, ◌+◌, length, ap, ◌∙◌}
use Rattle.subst_language.specs.Language.Answer.{Answer}
use Rattle.subst_yaml_reader.specs.declared.event.Event.{Event}
use Rattle.subst_yaml_reader.specs.declared.event.Event.TheVariants.{Document, Item, Key, Value, Open, FlowKey, Null, Close}
use Rattle.subst_yaml.specs.Filled.{end_of, rest_of_value, AreFilled, IsFilledEvent}
use Rattle.subst_yaml.specs.Laws.{flow_key, key, part_of, shape}

module _ (ask : List ℕ → Answer → Type 0) (source output : List ℕ) where
  same_part : (e f : Event) → IsFilledEvent ask source output e f → part_of output f ≡ part_of source e
  same_part Document f is = ap (part_of output) is
  same_part (Item depth) f is = ap (part_of output) is
  same_part (Key depth style span) f (other, is, same) =
      ap (part_of output) is ∙ ap (λ token. key depth style token) same
  same_part (Value style span in_flow indent) f (other_style, other, other_indent, is, h) = ap
      (part_of output) is
  same_part (Open bracket) f is = ap (part_of output) is
  same_part (FlowKey style span) f (other, is, same) =
      ap (part_of output) is ∙ ap (λ token. flow_key style token) same
  same_part Null f is = ap (part_of output) is
  same_part Close f is = ap (part_of output) is

  pub same_shape : (i j : ℕ) (es fs : List Event) → AreFilled ask source output i j es fs
      → shape output fs ≡ shape source es
  same_shape i j [] fs h = ap (shape output) h.0
  same_shape i j (e ∷ es) fs (f, more, is, event, before, (kept, rest)) =
      ap (shape output) is ∙ ap (λ part. part ∷ shape output more) (same_part e f event)
      ∙ ap (λ parts. part_of source e ∷ parts)
      (same_shape (end_of i e) (end_of j f + length (rest_of_value source e f)) es more rest)
