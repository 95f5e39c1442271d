-- Why what is asked can't be edited.
use Rattle.std.specs.Prelude.{List}
use Rattle.ubi_table.specs.Records.{Records}
use Rattle.ubi_writing.specs.Asks.{IsNoEdit}
use Rattle.ubi_writing.specs.declared.asks.Ask.{Ask}
use Rattle.ubi_writing.specs.declared.asks.Unasked.{Unasked}
use Rattle.ubi_writing.specs.declared.asks.Unasked.TheVariants as unasked

-- the first that stands for no edit; or memory ran out
abbrev pub IsUnasked : Records → List Ask → Unasked → Type 0
IsUnasked t asks (unasked.NoEdit i) = IsNoEdit t asks i
IsUnasked t asks unasked.Memory = Unit {0}
