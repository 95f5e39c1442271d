-- What is known of a text as far as its lines have been read.
use Rattle.ubi_compose.proofs.Prelude.{◌≡◌, ◌<◌, ℕ, ◌+◌, Bool, true, false, cond, List, [], ◌∷◌, ◌++◌, length, map, drop, get_or, refl, sym, ap, ◌∙◌, arith, Option, Some, None, Ok, Err, min, option_map, AllByRecursion, list_any, option_or, drop_all, drop_more, length_push, All-from_recursion, Sizes, breaks, fields_from, first_fault, rec_fault, VolumeRecord, Items, Content, Volume, AreFaultless, IsRefusedLine, error_at, read, IsSpecError, cause_of, first_cause, is_damaged, is_dynamic, is_updating, line_number, lines, numbered_volume, of_volume, sayings, volume_from, volumes_in, volumes_of, LineError, SpecCause, Line}
use Rattle.ubi_volume.specs.declared.content.Content.TheVariants as content
use Rattle.ubi_compose.specs.declared.errors.LineError.TheVariants as line_error
use Rattle.ubi_compose.proofs.LinesLeft.{first_from_start, first_left}
use Rattle.ubi_compose.proofs.LinesRead.{read_more, sound_read}
use Rattle.ubi_compose.proofs.SoundLines.{AreRight, IsSoundText, no_lines}
use Rattle.ubi_compose.proofs.TakenLines.{answer}

pub record IsReadSoFar (s : Sizes) (text : List ℕ) (before : List (List ℕ)) (items : Items) (number : ℕ) : Type 0 where
  pub left : first_cause s text ≡ first_left s before (drop (length before) (lines text))
  pub volumes : items ≡ volumes_in s (sayings before)
  pub sound : IsSoundText s (sayings before)
  pub number_is : number ≡ min (length before) 0xFFFFFFFF

nothing_yet : (s : Sizes) → [] ≡ volumes_in s (sayings [])
unfolding volumes_in sayings
nothing_yet s = refl

sound_at_first : (s : Sizes) → IsSoundText s (sayings [])
unfolding sayings
sound_at_first s = no_lines s

pub read_none : (s : Sizes) (text : List ℕ) → IsReadSoFar s text [] [] 0
read_none s text = record {
  left = first_from_start s text;
  volumes = nothing_yet s;
  sound = sound_at_first s;
  number_is = omega arith;
}

none_if : (o : Option SpecCause) (items more : Items) → answer o items ≡ Ok more → (o ≡ None) × (items ≡ more)
none_if None items more h = (refl, cc)
none_if (Some c) items more h = absurd (cc)

some_if : (o : Option SpecCause) (items : Items) (c : SpecCause) → answer o items ≡ Err c → o ≡ Some c
some_if None items c h = absurd (cc)
some_if (Some d) items c h = cc

module _ (s : Sizes) (text : List ℕ) (before : List (List ℕ)) (items : Items) (n : ℕ) (line : List ℕ)
    (k : IsReadSoFar s text before items n) (within : length before < length (lines text))
    (is : line ≡ get_or (lines text) (length before) line) where
  reads : read s items line ≡ answer (cause_of s before line) (volumes_in s (sayings (before ++ line ∷ [])))
  reads = ap (λ (items : Items). read s items line) k.volumes ∙ read_more s before line k.sound

  next_line : drop (length before) (lines text) ≡ line ∷ drop (length before + 1) (lines text)
  next_line =
      drop_more (lines text) (length before) line within ∙ ap (λ l. l ∷ drop (length before + 1) (lines text)) (sym is)

  this_line : first_cause s text
      ≡ option_or (option_map (λ c. (line_number (length before), c)) (cause_of s before line))
      (first_left s (before ++ line ∷ []) (drop (length before + 1) (lines text)))
  this_line = k.left ∙ ap (first_left s before) next_line

  -- a line more is read
  pub read_one : (more : Items) (m : ℕ) → read s items line ≡ Ok more → m ≡ min (n + 1) 0xFFFFFFFF
      → IsReadSoFar s text (before ++ line ∷ []) more m
  read_one more m h e =
      let o = none_if (cause_of s before line) (volumes_in s (sayings (before ++ line ∷ []))) more (sym reads ∙ h) in
      let long : length before + 1 ≡ length (before ++ line ∷ []) = sym (length_push before line) in
      let number = k.number_is in
      record {
        left = this_line
            ∙ ap (λ o. option_or (option_map (λ c. (line_number (length before), c)) o)
            (first_left s (before ++ line ∷ []) (drop (length before + 1) (lines text)))) o.0
            ∙ ap (λ i. first_left s (before ++ line ∷ []) (drop i (lines text))) long;
        volumes = sym o.1;
        sound = sound_read s before line k.sound o.0;
        number_is = omega arith;
      }

  -- it is refused for its cause
  refused_one : (c : SpecCause) (m : ℕ) → read s items line ≡ Err c → m ≡ min (n + 1) 0xFFFFFFFF
      → first_cause s text ≡ Some (m, c)
  refused_one c m h e =
      let o = some_if (cause_of s before line) (volumes_in s (sayings (before ++ line ∷ []))) c (sym reads ∙ h) in
      let number = k.number_is in
      let same : line_number (length before) ≡ m = omega arith in
      this_line
      ∙ ap (λ o. option_or (option_map (λ c. (line_number (length before), c)) o)
      (first_left s (before ++ line ∷ []) (drop (length before + 1) (lines text)))) o
      ∙ ap (λ i. Some (i, c)) same

  pub refused_at : (e : LineError) (m : ℕ) → IsRefusedLine (read s items line) e → m ≡ min (n + 1) 0xFFFFFFFF
      → IsSpecError s text (error_at m e)
  refused_at (line_error.Cause c) m h e = refused_one c m h e
  refused_at line_error.Memory m h e = tt

-- all lines are read
pub read_all : (s : Sizes) (text : List ℕ) (before : List (List ℕ)) (items : Items) (n : ℕ)
    → IsReadSoFar s text before items n → before ≡ lines text
    → (first_cause s text ≡ None) × (items ≡ volumes_of s text)
read_all s text before items n k h =
    let none : drop (length before) (lines text) ≡ [] =
    drop_all (length before) (lines text) (omega (arith, ap length h)) in
    (k.left ∙ ap (first_left s before) none, k.volumes ∙ ap (λ ls. volumes_in s (sayings ls)) h)

-- the update marker breaks no rule
marked : (s : Sizes) (r : VolumeRecord) (m : Bool)
    → rec_fault s (record r { marker = m }) ≡ rec_fault s (record r { marker = false })
unfolding first_fault breaks fields_from
marked s r true = refl
marked s r false = refl

entry_by : (s : Sizes) (r : VolumeRecord) (u d k : Bool) (a b : Content) → rec_fault s r ≡ None
    → rec_fault s (cond u (let v : Volume = record { entry = record r { marker = true }; content = content.Updating } in
    v)
    (cond d (record { entry = r; content = content.Damaged })
    (cond k (record { entry = r; content = a }) (record { entry = r; content = b })))).entry ≡ None
entry_by s r true d k a b h = marked s r true ∙ sym (marked s r r.marker) ∙ h
entry_by s r false true k a b h = h
entry_by s r false false true a b h = h
entry_by s r false false false a b h = h

entry_fault : (s : Sizes) (r : VolumeRecord) (own : List Line) → rec_fault s r ≡ None
    → rec_fault s (volume_from s r own).entry ≡ None
unfolding volume_from
entry_fault s r own h = entry_by s r (list_any is_updating own) (list_any is_damaged own) (is_dynamic r.kind) _ _ h

each_faultless : (s : Sizes) (ls : List Line) (hs : List (ℕ × VolumeRecord)) → AreRight s hs
    → AllByRecursion (λ (e : ℕ × Volume). rec_fault s e.1.entry ≡ None) (map (numbered_volume s ls) hs)
each_faultless s ls [] a = tt
each_faultless s ls (e ∷ hs) a = (entry_fault s e.1 (of_volume e.0 ls) a.0, each_faultless s ls hs a.1)

faultless : (s : Sizes) (ls : List Line) → IsSoundText s ls → AreFaultless s (volumes_in s ls)
unfolding volumes_in
faultless s ls t =
    All-from_recursion (λ (e : ℕ × Volume). rec_fault s e.1.entry ≡ None) _ (each_faultless s ls _ t.right)

pub faultless_so_far : (s : Sizes) (text : List ℕ) (before : List (List ℕ)) (items : Items) (n : ℕ)
    → IsReadSoFar s text before items n → AreFaultless s items
faultless_so_far s text before items n k = rw k.volumes (faultless s (sayings before) k.sound)
