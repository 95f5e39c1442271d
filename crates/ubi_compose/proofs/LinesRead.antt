-- Reading a line of a text after those above it.
use Rattle.ubi_compose.proofs.Prelude.{append-nil, ◌≡◌, ℕ, Bool, true, false, List, [], ◌∷◌, ◌++◌, refl, ◌∙◌, IfOk, Option, Some, None, Result, Ok, Err, ok_or, option_map_or, filter_map-append, Sizes, VolKind, read, taken, damaged_line, line_form, is_skipped, is_spelled, leb_line, line_of, number_word, said, text_line, updating_line, line_of_volume, word, words, cause_after, cause_of, saying, sayings, volumes_in, flags_of, hex_of, kind_named, shown_name, SpecCause, Form, Line}
use Rattle.std.specs.Prelude.{cond}
use Rattle.ubi_compose.specs.Lines.{◌>>=◌}
use Rattle.ubi_compose.specs.declared.errors.SpecCause.TheVariants as cause
use Rattle.ubi_compose.specs.declared.line.Form.TheVariants as form
use Rattle.ubi_compose.specs.declared.line.Line.TheVariants as line
use Rattle.ubi_compose.proofs.VolumeLines.{is_filled}
use Rattle.ubi_compose.proofs.Hexadecimal.{hex_filled}
use Rattle.ubi_compose.proofs.SoundLines.{IsSoundText, sound_more}
use Rattle.ubi_compose.proofs.TakenLines.{answer, taken_more}

-- a line that is read gives some byte, if it gives bytes of a text
abbrev IsFilled : Result Line SpecCause → Type 0
IsFilled r = IfOk r (λ l. is_filled l ≡ true)

volume_filled : (k : Option VolKind) (i r a : Result ℕ SpecCause) (f : Option ℕ) (n : Option (List ℕ))
    → IsFilled
    (ok_or k cause.Word >>=
    (λ kind. i >>=
    (λ id. r >>= (λ reserved. a >>= (λ alignment. ok_or f cause.Hex >>= (λ flags. ok_or n cause.Name >>= (λ name.
    Ok
    (line.Volume id (record {
      reserved = reserved;
      alignment = alignment;
      kind = kind;
      marker = false;
      name = name;
      flags = flags;
    })))))))))
volume_filled (Some kind) (Ok id) (Ok reserved) (Ok alignment) (Some flags) (Some name) = refl
volume_filled _ _ _ _ _ _ = tt

leb_filled : (i n : Result ℕ SpecCause) (b : Option (List ℕ))
    → IsFilled (i >>= (λ id. n >>= (λ lnum. ok_or b cause.Hex >>= (λ bytes. Ok (line.Leb id lnum bytes)))))
leb_filled (Ok id) (Ok lnum) (Some bytes) = refl
leb_filled _ _ _ = tt

text_filled : (i : Result ℕ SpecCause) (word : List ℕ) (b : Option (List ℕ)) → hex_of word ≡ b
    → IsFilled (i >>= (λ id. ok_or b cause.Hex >>= (λ bytes. Ok (line.Text id bytes))))
text_filled (Ok id) word (Some bytes) h = hex_filled word bytes h
text_filled _ word _ h = tt

damaged_filled : (i : Result ℕ SpecCause) → IsFilled (i >>= (λ id. Ok (line.Damaged id)))
damaged_filled (Err c) = tt
damaged_filled (Ok id) = refl

updating_filled : (i : Result ℕ SpecCause) → IsFilled (i >>= (λ id. Ok (line.Updating id)))
updating_filled (Err c) = tt
updating_filled (Ok id) = refl

said_filled : (ws : List (List ℕ)) (f : Form) → IsFilled (said ws f)
unfolding line_of_volume leb_line text_line damaged_line updating_line
said_filled ws form.Volume =
    volume_filled (kind_named (word ws 2)) (number_word (word ws 1)) (number_word (word ws 3)) (number_word (word ws 4))
    (flags_of (word ws 5)) (shown_name (word ws 6))
said_filled ws form.Leb = leb_filled (number_word (word ws 1)) (number_word (word ws 2)) (hex_of (word ws 3))
said_filled ws form.Text = text_filled (number_word (word ws 1)) (word ws 2) (hex_of (word ws 2)) refl
said_filled ws form.Damaged = damaged_filled (number_word (word ws 1))
said_filled ws form.Updating = updating_filled (number_word (word ws 1))

filled_by : (ws : List (List ℕ)) (b : Bool) (o : Option Form)
    → IsFilled (cond b (option_map_or (said ws) o (Err cause.Word)) (Err cause.Word))
filled_by ws true (Some f) = said_filled ws f
filled_by ws _ _ = tt

line_filled : (text : List ℕ) → IsFilled (line_of text)
unfolding line_of
line_filled text = filled_by (words text) (is_spelled text) (line_form (words text))

filled_if : (r : Result Line SpecCause) (l : Line) → r ≡ Ok l → IsFilled r → is_filled l ≡ true
filled_if (Ok k) l e h = let same : k ≡ l = cc in rw (← same) h
filled_if (Err c) l e h = absurd (cc)

-- what several lines say, with one line more
sayings_more : (above : List (List ℕ)) (text : List ℕ)
    → sayings (above ++ text ∷ []) ≡ sayings above ++ sayings (text ∷ [])
unfolding sayings
sayings_more above text = filter_map-append saying above (text ∷ [])

says_nothing : (above : List (List ℕ)) (text : List ℕ) → is_skipped text ≡ true
    → sayings (above ++ text ∷ []) ≡ sayings above
unfolding sayings saying
says_nothing above text h = sayings_more above text ∙ rw h (append-nil (sayings above))

says : (above : List (List ℕ)) (text : List ℕ) (l : Line) → is_skipped text ≡ false → line_of text ≡ Ok l
    → sayings (above ++ text ∷ []) ≡ sayings above ++ l ∷ []
unfolding sayings saying
says above text l h e = sayings_more above text ∙ rw (h, e) refl

read_said : (s : Sizes) (above : List (List ℕ)) (text : List ℕ) (r : Result Line SpecCause)
    → IsSoundText s (sayings above) → is_skipped text ≡ false → line_of text ≡ r
    → (r >>= taken s (volumes_in s (sayings above)))
    ≡ answer (cause_after s (sayings above) r) (volumes_in s (sayings (above ++ text ∷ [])))
read_said s above text (Err c) t h e = refl
read_said s above text (Ok l) t h e = taken_more s (sayings above) l t ∙ rw (says above text l h e) refl

read_by : (s : Sizes) (above : List (List ℕ)) (text : List ℕ) (b : Bool) → IsSoundText s (sayings above)
    → is_skipped text ≡ b
    → cond b (Ok (volumes_in s (sayings above))) (line_of text >>= taken s (volumes_in s (sayings above)))
    ≡ answer (cond b None (cause_after s (sayings above) (line_of text))) (volumes_in s (sayings (above ++ text ∷ [])))
read_by s above text true t h = rw (says_nothing above text h) refl
read_by s above text false t h = read_said s above text (line_of text) t h refl

-- a line more is read, or refused for its cause
pub read_more : (s : Sizes) (above : List (List ℕ)) (text : List ℕ) → IsSoundText s (sayings above)
    → read s (volumes_in s (sayings above)) text
    ≡ answer (cause_of s above text) (volumes_in s (sayings (above ++ text ∷ [])))
unfolding cause_of
read_more s above text t = read_by s above text (is_skipped text) t refl

sound_said : (s : Sizes) (above : List (List ℕ)) (text : List ℕ) (r : Result Line SpecCause)
    → IsSoundText s (sayings above) → is_skipped text ≡ false → line_of text ≡ r
    → cause_after s (sayings above) r ≡ None → IsSoundText s (sayings (above ++ text ∷ []))
sound_said s above text (Err c) t h e n = absurd (cc)
sound_said s above text (Ok l) t h e n =
    rw (says above text l h e) (sound_more s (sayings above) l t (filled_if (line_of text) l e (line_filled text)) n)

sound_by : (s : Sizes) (above : List (List ℕ)) (text : List ℕ) (b : Bool) → IsSoundText s (sayings above)
    → is_skipped text ≡ b
    → cond b None (cause_after s (sayings above) (line_of text)) ≡ None → IsSoundText s (sayings (above ++ text ∷ []))
sound_by s above text true t h n = rw (says_nothing above text h) t
sound_by s above text false t h n = sound_said s above text (line_of text) t h refl n

pub sound_read : (s : Sizes) (above : List (List ℕ)) (text : List ℕ) → IsSoundText s (sayings above)
    → cause_of s above text ≡ None
    → IsSoundText s (sayings (above ++ text ∷ []))
unfolding cause_of
sound_read s above text t n = sound_by s above text (is_skipped text) t refl n
