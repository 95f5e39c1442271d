-- What an attached image gives all plans for it: what its eraseblocks are, and what the parts of a plan do there.
use Rattle.ubi_change.proofs.Prelude.{◌≡◌, ℕ, ◌+◌, ◌/◌, ◌^◌, ◌<◌, inl, inr, Bool, true, false, cond, List, [], length, refl, sym, ◌∙◌, subst, arith, Option, Sizes, IsGeometry, EcHeader, Image, block, eraseblocks, length-of_chunk, length-first_chunks, clean_from_none, Agrees, seq_agrees, AcceptsBlocks, AttachValue, programs_copy, next_ec, prepare, release, renew, is_clean, is_sole_carrier, is_worn, stays}
use Rattle.std.proofs.Math.Nat as nat
use Rattle.ubi_change.proofs.CopyReplaced.{IsRelease}
use Rattle.ubi_change.proofs.Emptied.{AreBelow}
use Rattle.ubi_change.proofs.MeanCounter.{mean_narrow}
use Rattle.ubi_change.proofs.Premises.{neither}
use Rattle.ubi_change.proofs.Renewed.{IsCounter}
use Rattle.ubi_change.proofs.Seq.{NamedBeside, not_sole}
use Rattle.ubi_change.proofs.TopSqnum.{member_below}
use Rattle.ubi_change.proofs.Turned.{AllFail, renew_fails}
use Rattle.ubi_change.proofs.PlanPremises.{IsShown}
use Rattle.ubi_change.proofs.Runs.{if_renewed}

-- its numbers have 31 and 32 bits
module _ (image : Image) (a : AttachValue) (att : IsShown image a) where
  pub mean_few : a.scan.mean_ec < 2 ^ 31
  mean_few = subst (λ (n : ℕ). n < 2 ^ 31) (sym att.scan.mean_ec) (mean_narrow image.sizes (eraseblocks image))

  -- the image sequence number is the meaning's
  pub seq_narrow : a.scan.image_seq < 2 ^ 32
  seq_narrow =
      let means = att.accepted.accepted.means in
      subst (λ (n : ℕ). n < 2 ^ 32) (means.image_seq ∙ sym att.scan.image_seq) means.meaning.image_seq

module _ (image : Image) (g : IsGeometry image.sizes) (a : AttachValue) (att : IsShown image a) where
  abbrev s : Sizes
  s = image.sizes

  abbrev bs : List (List ℕ)
  bs = eraseblocks image

  pub acc : AcceptsBlocks s bs a.meaning
  acc = att.accepted.accepted

  pub agrees : Agrees s a.scan.image_seq bs
  agrees = subst (λ (q : ℕ). Agrees s q bs) (sym att.scan.image_seq)
      (seq_agrees s bs (clean_from_none s bs att.scan.clean))

  -- each eraseblock is whole
  pub whole : (p : ℕ) → p < length bs → length (block bs p) ≡ s.peb_size
  whole p l =
      let n = length-first_chunks s.peb_size (length image.bytes / s.peb_size) image.bytes in
      length-of_chunk s.peb_size (length image.bytes / s.peb_size) image.bytes p
      (let k = nat.div-add-mod (length image.bytes) s.peb_size in omega arith) (omega arith)

  -- each sequence number of a member is below the next one
  pub above : AreBelow s bs (a.scan.top_sqnum + 1)
  above of q m = let l = member_below s bs of q m in let e = att.scan.top_sqnum in let f = att.below in omega arith

  -- neither what makes an eraseblock ready nor what gives one up programs the header of a copy
  pub prepare_fails : (p : ℕ) → AllFail (programs_copy s) (prepare s bs a p)
  prepare_fails p = if_renewed (AllFail (programs_copy s)) (is_clean s bs a.states p) tt (renew_fails s g p _)

  pub release_fails : (p : ℕ) (now : Option EcHeader) → AllFail (programs_copy s) (release s bs a p now)
  release_fails p now = if_renewed (AllFail (programs_copy s)) (stays s bs p now) tt (renew_fails s g p _)

  -- what is given up is left, or erased where another eraseblock names the image, in these eraseblocks or in others in
  -- which it still does
  pub release_is : (cs : List (List ℕ)) (p : ℕ) (now : Option EcHeader)
      → (is_worn now ≡ false → IsCounter (next_ec a.scan now))
      → (NamedBeside s a.scan.image_seq bs p → NamedBeside s a.scan.image_seq cs p)
      → IsRelease s cs p a.scan.image_seq (release s bs a p now)
  release_is cs p now counter named = by_test (stays s bs p now) refl
    where
      by_test : (b : Bool) → stays s bs p now ≡ b
          → IsRelease s cs p a.scan.image_seq (cond b [] (renew s p (next_ec a.scan now)))
      by_test true e = inl refl
      by_test false e =
          let two = neither (is_worn now) (is_sole_carrier s bs p) e in inr (
            next_ec a.scan now,
            counter two.0,
            refl,
            named (not_sole s a.scan.image_seq bs agrees p two.1),
            refl,
          )
