use Rattle.ubi_writing.proofs.Prelude.{ap, refl, kept_since, others_stay, ◌∙◌}
use Rattle.ubi_writing.proofs.pages_file.write_at.Goals as goal

pub returns-clause-others : goal.returns-clause-others
returns-clause-others g c =
    let parts = c.into_parts-disk.ensures in
    others_stay (λ f. g.D.Output.Write.contents f.writer) (λ f. f.path.now) g.K.Target.files (g.D.Disk.files c.keep_file.new.disk)
    g.K.Target.path g.K.Target.path c.into_parts-disk.result.1 refl parts.named
    (kept_since (λ f. g.D.Output.Write.contents f.writer) (λ f. f.path.now) g.K.Target.files (g.D.Disk.files c.into_parts-disk.result.0.now)
    (g.D.Disk.files c.keep_file.new.disk) g.K.Target.path c.into_parts-disk.result.1 parts.since parts.named c.keep_file.ensures.kept)
    (λ none. ap g.D.Disk.files (c.keep_file.ensures.none none) ∙ parts.before none)
