-- What a file that is opened late has received.
use Rattle.std.specs.Prelude.{ℕ, List, None, Option, Some}

-- what was received so far: until the file is open, what a file that was just opened anew holds
abbrev pub contents_of : {F : Type 0} → Option (List ℕ) → (F → Option (List ℕ)) → Option F → Option (List ℕ)
contents_of empty contents None = empty
contents_of empty contents (Some file) = contents file
