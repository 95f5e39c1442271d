use Rattle.ubi_commands.proofs.Prelude.{◌≡◌, length, map, string_bytes, any_names_output}
use Rattle.ubi_commands.proofs.print.any_names_output.Given as goal

-- none of the words before those left names it
abbrev pub invariant-words : goal.invariant-words
invariant-words l =
    any_names_output (map (λ word. string_bytes word) l.fn.words) ≡ any_names_output (map (λ word. string_bytes word) l.rest)

abbrev pub decreases-words : goal.decreases-words
decreases-words l = length l.rest
