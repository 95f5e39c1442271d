-- What is found shows more and more differences.
use Rattle.ubi_compare.proofs.Prelude.{◌≡◌, ◌≢◌, Bool, true, false, List, [], ◌∷◌, ◌++◌, append-nil, append_assoc, refl, ap, sym, ◌∙◌, subst, Difference, Found, Adds, Tells}
use Rattle.ubi_compare.proofs.NoDifferences.{both_none, none_both}

-- some were told, and more are behind them
tells_more : (brief : Bool) (old new more ds : List Difference) → new ≡ old ++ more → Tells brief old ds
    → Tells brief new (ds ++ more)
tells_more false old new more ds is told = is ∙ ap (λ xs. xs ++ more) told
tells_more true old new more ds is told = (
  λ none. (let parts = both_none old more (sym is ∙ none) in none_both ds more (told.0 parts.0) parts.1),
  λ none. (let parts = both_none ds more none in is ∙ none_both old more (told.1 parts.0) parts.1),
)

pub adds_list : (old new : Found) (more : List Difference) → new.is_brief ≡ old.is_brief
    → new.list.items ≡ old.list.items ++ more → Adds old new more
adds_list old new more brief is = record {
  brief = brief;
  tells = λ ds told. tells_more old.is_brief old.list.items new.list.items more ds is told;
}

pub adds_none : (f : Found) → Adds f f []
adds_none f = adds_list f f [] refl (sym (append-nil f.list.items))

pub adds_more : (f g h : Found) (xs ys : List Difference) → Adds f g xs → Adds g h ys → Adds f h (xs ++ ys)
adds_more f g h xs ys a b = record {
  brief = b.brief ∙ a.brief;
  tells = λ ds told.
      subst (Tells f.is_brief h.list.items) (append_assoc ds xs ys)
      (subst (λ (k : Bool). Tells k h.list.items (ds ++ xs ++ ys)) a.brief
      (b.tells (ds ++ xs) (subst (λ (k : Bool). Tells k g.list.items (ds ++ xs)) (sym a.brief) (a.tells ds told))));
}

-- what is settled in brief stays so
tells_settled : (brief : Bool) (found more ds : List Difference) → brief ≡ true → found ≢ [] → Tells brief found ds
    → Tells brief found (ds ++ more)
tells_settled false found more ds is some told = absurd (cc)
tells_settled true found more ds is some told = (
  λ none. absurd (some none),
  λ none. told.1 (both_none ds more none).0,
)

pub adds_settled : (f : Found) (more : List Difference) → f.is_brief ≡ true → f.list.items ≢ [] → Adds f f more
adds_settled f more brief some = record {
  brief = refl;
  tells = λ ds told. tells_settled f.is_brief f.list.items more ds brief some told;
}

-- in brief one difference is as good as some
tells_one : (brief : Bool) (new ds more : List Difference) (d : Difference) → brief ≡ true → more ≢ []
    → Tells brief new (ds ++ d ∷ []) → Tells brief new (ds ++ more)
tells_one false new ds more d is some told = absurd (cc)
tells_one true new ds more d is some told = (
  λ none. absurd (one_told (both_none ds (d ∷ []) (told.0 none)).1),
  λ none. absurd (some (both_none ds more none).1),
)
  where
    one_told : d ∷ [] ≡ [] → ⊥
    one_told none = cc

pub adds_brief : (old new : Found) (more : List Difference) (d : Difference) → old.is_brief ≡ true → more ≢ []
    → Adds old new (d ∷ []) → Adds old new more
adds_brief old new more d is some one = record {
  brief = one.brief;
  tells = λ ds told. tells_one old.is_brief new.list.items ds more d is some (one.tells ds told);
}

-- what tells the same as some differences is as good as these
tells_alike : (brief : Bool) (new ds told more : List Difference) → Tells brief told more → Tells brief new (ds ++ told)
    → Tells brief new (ds ++ more)
tells_alike false new ds told more alike is = is ∙ ap (λ (xs : List Difference). ds ++ xs) alike
tells_alike true new ds told more alike is = (
  λ none. (let parts = both_none ds told (is.0 none) in none_both ds more parts.0 (alike.0 parts.1)),
  λ none. (let parts = both_none ds more none in is.1 (none_both ds told parts.0 (alike.1 parts.1))),
)

pub adds_alike : (old new : Found) (told more : List Difference) → Tells old.is_brief told more → Adds old new told
    → Adds old new more
adds_alike old new told more alike adds = record {
  brief = adds.brief;
  tells = λ ds is. tells_alike old.is_brief new.list.items ds told more alike (adds.tells ds is);
}

-- what is found from the beginning is all
none_tells : (brief : Bool) → Tells brief [] []
none_tells true = (λ none. refl, λ none. refl)
none_tells false = refl

pub all_found : (f g : Found) (brief : Bool) (ds : List Difference) → f.list.items ≡ [] → f.is_brief ≡ brief → Adds f g ds
    → Tells brief g.list.items ds
all_found f g brief ds none is adds =
    subst (λ (b : Bool). Tells b g.list.items ds) is
    (adds.tells [] (subst (λ (found : List Difference). Tells f.is_brief found []) (sym none) (none_tells f.is_brief)))
