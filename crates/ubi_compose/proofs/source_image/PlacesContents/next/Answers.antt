use Rattle.ubi_compose.proofs.Prelude.{ℕ, ◌/◌, IfSome, None, Option, Some, AreWithin, Piece, IsNext, LiesIn, stored_pieces}
use Rattle.ubi_compose.proofs.StoredNext.{stored_lies}
use Rattle.ubi_compose.proofs.source_image.PlacesContents.next.Goals as goal

pub returns-clause-lies : goal.returns-clause-lies
returns-clause-lies c = λ size within. rw (← c.requires.sizes) (by size within c.next_piece.result c.next_piece.ensures)
  where
    by : (size : ℕ) → AreWithin (size / c.args.self.now.records.sizes.peb_size) c.args.self.now → (o : Option Piece)
        → IsNext (stored_pieces c.args.self.now) c.args.id c.args.from o
        → IfSome o (LiesIn c.args.self.now.records.sizes size)
    by size within None next = tt
    by size within (Some q) next = stored_lies c.args.self.now c.args.id q.header.lnum q next.there size within
