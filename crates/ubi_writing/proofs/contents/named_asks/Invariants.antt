use Rattle.ubi_writing.proofs.Prelude.{◌≡◌, ◌++◌, map, take, vec_items}
use Rattle.ubi_writing.specs.declared.asks.Ask.TheVariants as ask
use Rattle.ubi_writing.proofs.contents.named_asks.Given as goal

abbrev pub invariant-loop-word : goal.invariant-loop-word
invariant-loop-word l = record {
  renamed : vec_items l.asks ≡ map ask.Rename (take l.word-index l.asked.names.now);
}

abbrev pub invariant-loop-word-2 : goal.invariant-loop-word-2
invariant-loop-word-2 l = record {
  sized : vec_items l.asks ≡ map ask.Rename l.asked.names.now ++ map ask.Resize (take l.word-index l.asked.sizes.now);
}

abbrev pub invariant-loop-word-3 : goal.invariant-loop-word-3
invariant-loop-word-3 l = record {
  removed : vec_items l.asks ≡ map ask.Rename l.asked.names.now ++ map ask.Resize l.asked.sizes.now
      ++ map ask.Remove (take l.word-index l.asked.removals.now);
}
