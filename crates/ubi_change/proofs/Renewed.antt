-- An eraseblock is erased, and gets an erase-counter header.
use Rattle.ubi_change.proofs.Prelude.{◌≡◌, ◌≢◌, ℕ, zero, suc, ◌*◌, ◌^◌, ◌<◌, List, [], length, set, refl, ap, sym, ◌∙◌, subst, arith, get_or-set_same, set-set, ec_bytes, ec_reading, blank, filled, overwrite, Sizes, IsGeometry, EcHeader, ec_read_back, one_ec_reading, AllBlank, AcceptsBlocks, Meant, renew, Agrees, filled-none, filled_more, length-filled, overwrite_front}
use Rattle.ubi_media.specs.declared.ec.EcRead.TheVariants as ec_read
use Rattle.ubi_change.proofs.Runs.{AtEachCut, done}
use Rattle.ubi_change.proofs.Seq.{NamedBeside}
use Rattle.ubi_change.proofs.Vacated.{LosesAll, vacated}
use Rattle.ubi_change.proofs.Written.{bare-vacant, blank-vacant}

-- a header that can be written
pub record IsCounter (e : EcHeader) : Type 0 where
  pub counter : e.counter < 2 ^ 31
  pub image_seq : e.image_seq < 2 ^ 32

module _ (s : Sizes) (g : IsGeometry s) (e : EcHeader) (h : IsCounter e) where
  pub counter_size : length (ec_bytes s e) ≡ 64
  counter_size = refl

  pub counter_back : ec_reading s (ec_bytes s e) ≡ ec_read.Valid e
  counter_back =
      sym ((one_ec_reading s (ec_bytes s e) (ec_read.Valid e)).0
      (ec_read_back s e (omega (arith, g.data_from, g.leb, g.peb_to)) (omega (arith, g.leb, g.peb_to)) h.counter
      h.image_seq))

  pub programmed : overwrite (0 * s.page) (filled s.page (ec_bytes s e)) (blank s.peb_size)
      ≡ filled s.peb_size (ec_bytes s e)
  programmed =
      let zero_place : 0 * s.page ≡ 0 = omega arith in
      let size : length (filled s.page (ec_bytes s e)) ≡ s.page =
      length-filled s.page (ec_bytes s e) (let k = counter_size in let l = g.page_from in omega arith) in
      ap (λ k. overwrite k (filled s.page (ec_bytes s e)) (blank s.peb_size)) zero_place
      ∙ ap (overwrite 0 (filled s.page (ec_bytes s e))) (sym (filled-none s.peb_size))
      ∙ overwrite_front s.peb_size s.page (filled s.page (ec_bytes s e)) [] (omega arith) size
      ∙ filled_more s.peb_size s.page (ec_bytes s e) (let k = counter_size in let l = g.page_from in omega arith)
      g.peb_from

  module _ (bs : List (List ℕ)) (p : ℕ) (inside : p < length bs) where
    pub renewed : done s bs (renew s p e) ≡ set bs p (filled s.peb_size (ec_bytes s e))
    renewed =
        ap (λ b. set (set bs p (blank s.peb_size)) p (overwrite (0 * s.page) (filled s.page (ec_bytes s e)) b))
        (get_or-set_same bs p (blank s.peb_size) [] inside)
        ∙ set-set bs p (blank s.peb_size) (overwrite (0 * s.page) (filled s.page (ec_bytes s e)) (blank s.peb_size))
        ∙ ap (set bs p) programmed

    -- what holds before, of the blank eraseblock and of the new one holds at each cut
    pub renew_cuts : (P : List (List ℕ) → Type 0) → P bs → P (set bs p (blank s.peb_size))
        → P (set bs p (filled s.peb_size (ec_bytes s e))) → AtEachCut s P bs (renew s p e)
    renew_cuts P a b c zero l = a
    renew_cuts P a b c (suc zero) l = b
    renew_cuts P a b c (suc (suc zero)) l = subst P (sym renewed) c
    renew_cuts P a b c (suc (suc (suc k))) l = absurd (omega arith)

    -- where nothing that counts is won by it, and another names the image, the meaning stays at each cut
    pub renew_accepted : (seq : ℕ) (m : Meant) (a : AcceptsBlocks s bs m) → (AllBlank s bs → ⊥) → Agrees s seq bs
        → NamedBeside s seq bs p → LosesAll s bs a.records p → (e.image_seq ≢ 0 → e.image_seq ≡ seq)
        → AtEachCut s (λ x. AcceptsBlocks s x m) bs (renew s p e)
    renew_accepted seq m a used agrees beside loses image =
        renew_cuts (λ x. AcceptsBlocks s x m) a
        (vacated s bs p (blank s.peb_size) inside seq m a used agrees beside loses (blank-vacant s g seq))
        (vacated s bs p (filled s.peb_size (ec_bytes s e)) inside seq m a used agrees beside loses
        (bare-vacant s g (ec_bytes s e) e counter_size counter_back seq image))
