use Rattle.ubi_writing.proofs.Prelude.{◌≡◌, ◌∙◌, ◌≤◌, ◌+◌, List, [], ◌∷◌, ap, arith, length, map, map-append, refl, subst, sum_by, sum_by-append, sym, take, take_all, take_more, ℕ, sizes_of, Bor, err_from_is_err_and, Tells-weaker, IsFilledBy, bytes_in}
use Rattle.ubi_writing.proofs.FilledContents.{none_filled, one_filled, unread_word}
use Rattle.ubi_writing.proofs.contents.gather_contents.Goals as goal

pub loop-word-init : goal.loop-word-init
loop-word-init g c = record {
  filled = none_filled (g.D.Disk.files c.args.disk.now) (sizes_of c.args.numbers) c.args.asked.now
      (record { asks = c.in_ok-asks.asks; volumes = c.new.result; paths = c.new-2.result; total = 0 }) _ c.in_ok-asks.ensures c.new.ensures.items refl c.new-2.ensures.items
      (ap (map (λ f. bytes_in (λ x. g.D.Placed.PlacedFile.bytes x.file) f.file)) c.new-files.ensures.items);
  total = sym (ap (sum_by (λ f. f.len)) c.new-files.ensures.items);
}

pub loop-word-preserved : goal.loop-word-preserved
loop-word-preserved g c =
    let d = g.D.Disk.files c.args.disk.now in
    let s = sizes_of c.args.numbers in
    let xs = c.args.asked.now.contents.now in
    let i = c.loop-word.word-index in
    let named = c.parts_of.ensures.value in
    let added = c.in_ok-add_word.ensures in
    let pushed = c.in_ok-push_file.ensures in
    record {
      filled = subst (λ (ws : List (Bor (List ℕ))). IsFilledBy d s c.args.asked.now ws c.add_word.new.self
          (map (λ f. bytes_in (λ x. g.D.Placed.PlacedFile.bytes x.file) f.file) c.push_file.new.files.items))
          (sym (take_more xs i _ c.loop-word-test.true))
          (one_filled d s c.args.asked.now (take i xs) _ c.parts_of.result.1 c.in_ok-file.file.len _ c.loop-word.contents c.add_word.new.self _ _
          c.loop-word.invariant.filled c.in_ok-file.ensures.file named (rw c.len.ensures at added.asks) added.volumes (rw c.len.ensures at added.total) added.paths
          (ap (map (λ f. bytes_in (λ x. g.D.Placed.PlacedFile.bytes x.file) f.file)) pushed
          ∙ map-append (λ f. bytes_in (λ x. g.D.Placed.PlacedFile.bytes x.file) f.file) c.loop-word.files.items (c.in_ok-file.file ∷ [])));
      total =
          added.total ∙ ap (λ n. c.loop-word.contents.total + n) c.len.ensures
          ∙ ap (λ n. n + c.in_ok-file.file.len) c.loop-word.invariant.total
          ∙ (let one : sum_by (λ f. f.len) c.loop-word.files.items + c.in_ok-file.file.len
          ≡ sum_by (λ f. f.len) c.loop-word.files.items + sum_by (λ f. f.len) (c.in_ok-file.file ∷ []) = omega arith in one)
          ∙ sym (ap (sum_by (λ f. f.len)) pushed ∙ sum_by-append (λ f. f.len) c.loop-word.files.items (c.in_ok-file.file ∷ []));
    }

pub returns-in_err-file-clause-unread : goal.returns-in_err-file-clause-unread
returns-in_err-file-clause-unread g c =
    let p = err_from_is_err_and c.from_residual-in_err-file.result c.from_residual-in_err-file.ensures.1 in
    rw (p.1, p.2) (Tells-weaker _ _
    (unread_word c.args.numbers c.args.asked.now.contents.now c.loop-word.word-index _ _ c.loop-word-test.true c.parts_of.ensures.value) _
    c.in_err-file.ensures.unread)

pub returns-clause-filled : goal.returns-clause-filled
returns-clause-filled g c =
    let xs = c.args.asked.now.contents.now in
    let i = c.loop-word.word-index in
    let all : length xs ≤ i = (let end = c.loop-word.auto.word-index-end in let test = c.loop-word-test.false in omega (arith, end, test)) in
    subst (λ (ws : List (Bor (List ℕ))). IsFilledBy (g.D.Disk.files c.args.disk.now) (sizes_of c.args.numbers) c.args.asked.now ws c.loop-word.contents
    (map (λ f. bytes_in (λ x. g.D.Placed.PlacedFile.bytes x.file) f.file) c.loop-word.files.items))
    (take_all i xs all) c.loop-word.invariant.filled
