-- Texts of edits, on literals.
use Rattle.ubi_calls.proofs.Prelude.{◌≡◌, ◌∷◌, ◌++◌, [], List, ap, codes, refl, sym, ℕ, Bor, None, Some, IsLineFor, edit_lines, has_value, length_in}
use Rattle.ubi_writing.specs.declared.asks.Ask.TheVariants as ask

-- ---- lines

no_line : edit_lines [] ≡ []
no_line = refl

one_line : edit_lines (codes "remove a\n") ≡ codes "remove a" ∷ []
one_line = refl

without_line_feed : edit_lines (codes "remove a\nremove b") ≡ codes "remove a" ∷ codes "remove b" ∷ []
without_line_feed = refl

empty_line : edit_lines (codes "\n") ≡ [] ∷ []
empty_line = refl

empty_line_at_the_end : edit_lines (codes "remove a\n\n") ≡ codes "remove a" ∷ [] ∷ []
empty_line_at_the_end = refl

-- ---- lengths

length : length_in 7 (codes "a=7") ≡ Some 7
length = refl

with_zeros : length_in 7 (codes "a=007") ≡ Some 7
with_zeros = refl

behind_the_first_sign : length_in 7 (codes "a=b=7") ≡ None
behind_the_first_sign = refl

too_long : length_in 6 (codes "a=7") ≡ None
too_long = refl

no_digit : length_in 7 (codes "a=") ≡ None
no_digit = refl

no_value : length_in 7 (codes "a") ≡ None
no_value = refl

with_unit : length_in 7000 (codes "a=1KiB") ≡ None
with_unit = refl

-- ---- whole lines

renames : (word : Bor (List ℕ)) → word.now ≡ codes "a=b=c" → IsLineFor (codes "rename a=b=c") 0 0 (ask.Rename word)
renames word is = (ap (λ w. codes "rename " ++ w) (sym is), ap has_value is)

writes : (word : Bor (List ℕ)) → word.now ≡ codes "a=3" → IsLineFor (codes "write a=3") 4 6 (ask.Contents word 4 3)
writes word is = (ap (λ w. codes "write " ++ w) (sym is), refl, ap (length_in 6) is)
