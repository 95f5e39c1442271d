use Rattle.ubi_calls.proofs.streams.Content.fill_all.Given as goal

abbrev pub ghosts-fill : goal.ghosts-fill
ghosts-fill a = record {
  before = a.out.now;
  buffer = a.out.ghost_name;
}
