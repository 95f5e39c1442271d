-- What is asked of an image that was surveyed.
use Rattle.ubi_writing.proofs.Prelude.{AskedEdits, all_edits, with_written, fold, option_map, ◌≡◌, ◌∙◌, ℕ, zero, suc, ◌<◌, List, [], ◌∷◌, length, take, ap, sym, arith, Some, slice_get, Image, Records, records_of, IsSurvey, Seen, Edit, IsNoEdit, edit_for, edits_for, AreEditsOf, IsNoEditOf, no_edit_line, Ask}

-- what is found at a place lies inside
pub inside_of : (asks : List Ask) (i : ℕ) (a : Ask) → slice_get asks i ≡ Some a → i < length asks
inside_of [] i a is = absurd (cc)
inside_of (x ∷ xs) zero a is = omega arith
inside_of (x ∷ xs) (suc i) a is = (let l = inside_of xs i a is in omega arith)

module _ (image : Image) (v : Seen) (is : IsSurvey image v) (t : Records) (read : t ≡ v.records) (w : AskedEdits) where
  same : t ≡ records_of is.meaning
  same = read ∙ is.records

  pub edits_are : (es all : List Edit) → edits_for t w.asks ≡ Some es → all ≡ fold (with_written t) es w.volumes → AreEditsOf image w all
  edits_are es all are more = record {
    from = record { meaning = is.meaning; scan = v.scan; states = v.states };
    attached = is.attached;
    edits =
        ap (λ (x : Records). all_edits x w) (sym same)
        ∙ ap (option_map (λ es. fold (with_written t) es w.volumes)) are
        ∙ ap Some (sym more);
  }

  pub no_edit_is : (i : ℕ) (line : List ℕ) (none : IsNoEdit t w.asks i) → line ≡ no_edit_line t w i none.ask → IsNoEditOf image w line
  no_edit_is i line none said = record {
    from = record { meaning = is.meaning; scan = v.scan; states = v.states };
    attached = is.attached;
    at = i;
    no_edit = record {
      before = none.before;
      edits = ap (λ (x : Records). edits_for x (take i w.asks)) (sym same) ∙ none.edits;
      ask = none.ask;
      at = none.at;
      none = ap (λ (x : Records). edit_for x none.before none.ask) (sym same) ∙ none.none;
    };
    said = said ∙ ap (λ (x : Records). no_edit_line x w i none.ask) same;
  }
