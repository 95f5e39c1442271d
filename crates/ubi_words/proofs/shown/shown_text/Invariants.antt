use Rattle.std.specs.Prelude.{◌≡◌, string_bytes, take}
use Rattle.ubi_words.specs.Shown.{shown}
use Rattle.ubi_words.proofs.shown.shown_text.Given as goal

abbrev pub invariant-loop-byte : goal.invariant-loop-byte
invariant-loop-byte l = string_bytes l.text ≡ shown (take l.byte-index l.name)
