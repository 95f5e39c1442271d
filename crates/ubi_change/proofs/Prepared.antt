-- An eraseblock that is taken is made ready.
use Rattle.ubi_change.proofs.Prelude.{◌≡◌, ℕ, zero, suc, ◌-◌, ◌<◌, ◌≤◌, true, List, [], ◌++◌, length, set, take, drop, refl, ap, sym, ◌∙◌, arith, length-drop, IsSome, length-take-le, set-get_or, take-append-drop, ec_bytes, filled, is_blank, Sizes, IsGeometry, EcHeader, EcRead, block, ec, ec_area, seq_if, valid_ec, AllBlank, AcceptsBlocks, Meant, blank_text, renew, Agrees, filled-by}
use Rattle.ubi_media.specs.declared.ec.EcRead.TheVariants as ec_read
use Rattle.ubi_change.proofs.CopyReplaced.{IsPrepared}
use Rattle.ubi_change.proofs.Renewed.{IsCounter, counter_back, counter_size, renew_accepted, renewed}
use Rattle.ubi_change.proofs.Runs.{AtEachCut}
use Rattle.ubi_change.proofs.Seq.{NamedBeside}
use Rattle.ubi_change.proofs.TornCopy.{erase_torn, renew_tears}
use Rattle.ubi_change.proofs.TornRuns.{no_tears}
use Rattle.ubi_change.proofs.Vacated.{LosesAll, vacated}

-- a Valid header is one
pub valid_is : (o : EcRead) → IsSome (valid_ec o) → (e : EcHeader) × (o ≡ ec_read.Valid e)
valid_is ec_read.Blank h = absurd (cc)
valid_is ec_read.Corrupt h = absurd (cc)
valid_is (ec_read.Fault f) h = absurd (cc)
valid_is (ec_read.Valid e) h = (e, refl)

module _ (s : Sizes) (g : IsGeometry s) (bs : List (List ℕ)) (m : Meant) (a : AcceptsBlocks s bs m) (b : ℕ)
    (inside : b < length bs) (seq : ℕ) (agrees : Agrees s seq bs) where
  -- no step leaves all as it is
  pub no_steps : AtEachCut s (λ x. AcceptsBlocks s x m) bs []
  no_steps zero l = a
  no_steps (suc k) l = a

  -- a clean one is ready
  pub clean_prepared : length (block bs b) ≡ s.peb_size → is_blank (drop 64 (block bs b)) ≡ true → (e : EcHeader)
      → ec s (block bs b) ≡ ec_read.Valid e
      → IsPrepared s bs m b seq [] (ec_area (block bs b)) e
  clean_prepared whole empty e valid =
      let y = block bs b in
      let wide : 64 ≤ s.peb_size = omega (arith, g.page_from, g.peb_from) in
      let size : length (take 64 y) ≡ 64 = length-take-le 64 y (omega arith) in
      let rest : length (drop 64 y) ≡ s.peb_size - 64 = length-drop 64 y ∙ omega arith in
      let is : filled s.peb_size (take 64 y) ≡ y =
      filled-by s.peb_size 64 (take 64 y) size
      ∙ ap (λ z. take 64 y ++ z) (sym (blank_text (drop 64 y) (s.peb_size - 64) empty rest))
      ∙ take-append-drop 64 y in
      record {
        cuts = no_steps;
        ready = sym (ap (set bs b) is ∙ set-get_or bs b []);
        size = size;
        reads = valid;
        image = λ h. (let named = ap seq_if valid in sym named ∙ agrees.all b inside (λ z. h (sym named ∙ z)));
        keeps = λ h. sym (ap seq_if valid) ∙ h;
        tears = no_tears s (λ k f x. AcceptsBlocks s x m) bs;
      }

  -- any other is after an erase
  pub renew_prepared : (AllBlank s bs → ⊥) → NamedBeside s seq bs b → LosesAll s bs a.records b → (e : EcHeader)
      → IsCounter e → e.image_seq ≡ seq
      → IsPrepared s bs m b seq (renew s b e) (ec_bytes s e) e
  renew_prepared used beside loses e counter image = record {
    cuts = renew_accepted s g e counter bs b inside seq m a used agrees beside loses (λ _. image);
    ready = renewed s g e counter bs b inside;
    size = counter_size s g e counter;
    reads = counter_back s g e counter;
    image = λ _. image;
    keeps = λ _. image;
    tears = renew_tears s g bs b inside e counter seq (λ _. image) (λ x. AcceptsBlocks s x m)
        (erase_torn s g bs m a b seq inside used agrees beside loses)
        (λ t v. vacated s bs b t inside seq m a used agrees beside loses v);
  }
