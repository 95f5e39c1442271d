-- What a writer received piece by piece.
use Rattle.ubi_volume.proofs.Prelude.{◌≡◌, ℕ, ◌+◌, ◌<◌, ◌≤◌, List, [], ◌++◌, length, take, ap, refl, sym, ◌∙◌, subst, arith, length-append, length-take-le, Option, Appends, Appends-nil, Appends-trans, take-append-add, take-append-le, take_all, Sizes, Agreed, Source, blocks_in, StreamError, All, First, IsWroteError, NotAll, Wanted, Wrote}
use Rattle.ubi_scan.specs.declared.errors.StreamError.TheVariants as stream

-- the bytes that are wanted are those of two parts, in order
abbrev pub Splits : Wanted → Wanted → Wanted → Type 0
Splits wanted front back = (image text : List ℕ) → wanted image text
    → (a b : List ℕ) × (text ≡ a ++ b) × front image a × back image b

module _ (k : Source) (agrees : Agreed) where
  -- nothing was wanted
  pub wrote_none : (a : Option (List ℕ)) (n : ℕ) → Wrote agrees a a (λ image text. text ≡ []) All n n
  wrote_none a n = record {
    bytes = [];
    got = Appends-nil a;
    count = omega arith;
    held = λ image h text is. (sym (ap length is), sym (ap (take 0) is));
  }

  -- nothing was received yet
  pub wrote_first : (a : Option (List ℕ)) (wanted : Wanted) (n : ℕ) → Wrote agrees a a wanted First n n
  wrote_first a wanted n = record {
    bytes = [];
    got = Appends-nil a;
    count = omega arith;
    held = λ image h text is. (omega arith, refl);
  }

  -- one text, or the first bytes of it
  pub wrote_text : (a b : Option (List ℕ)) (wanted : Wanted) (text : List ℕ) (size m n : ℕ) → Appends a b text
      → length text ≡ size → n ≡ m + size
      → ((image t : List ℕ) → agrees image → wanted image t → t ≡ text) → Wrote agrees a b wanted All m n
  wrote_text a b wanted text size m n got long count same = record {
    bytes = text;
    got = got;
    count = omega (arith, long, count);
    held = λ image is t w. (let e = same image t is w in
        (ap length (sym e), sym e ∙ sym (take_all (length text) t (let l = ap length e in omega arith))));
  }

  pub wrote_cut : (a b : Option (List ℕ)) (wanted : Wanted) (text : List ℕ) (size j m n : ℕ) → Appends a b (take j text)
      → length text ≡ size → j < size → n ≡ m + j
      → ((image t : List ℕ) → agrees image → wanted image t → t ≡ text) → Wrote agrees a b wanted NotAll m n
  wrote_cut a b wanted text size j m n got long short count same =
      let few : length (take j text) ≡ j = length-take-le j text (omega arith) in
      record {
        bytes = take j text;
        got = got;
        count = omega (arith, few, count);
        held = λ image is t w. (let e = same image t is w in (
          (let l = ap length e in omega (arith, few, l, long, short)),
          ap (λ n. take n text) (sym few) ∙ ap (take (length (take j text))) (sym e),
        ));
      }

  -- the same bytes are wanted
  pub wrote_as : (a b : Option (List ℕ)) (wanted other : Wanted) (many : ℕ → ℕ → Type 0) (m n : ℕ)
      → ((image text : List ℕ) → other image text → wanted image text)
      → Wrote agrees a b wanted many m n → Wrote agrees a b other many m n
  wrote_as a b wanted other many m n same h = record {
    bytes = h.bytes;
    got = h.got;
    count = h.count;
    held = λ image is text o. h.held image is text (same image text o);
  }

  pub error_as : (s : Sizes) (a b : Option (List ℕ)) (wanted other : Wanted) (m : ℕ) (e : StreamError)
      → ((image text : List ℕ) → other image text → wanted image text)
      → IsWroteError s k agrees a b wanted m e → IsWroteError s k agrees a b other m e
  error_as s a b wanted other m (stream.Read p n) same h = (h.0, wrote_as a b wanted other First m n same h.1)
  error_as s a b wanted other m (stream.Write n) same h = wrote_as a b wanted other NotAll m n same h
  error_as s a b wanted other m (stream.Refused c) same h = h
  error_as s a b wanted other m stream.Memory same h = h

  -- a part after what was written
  wrote_both : (a b c : Option (List ℕ)) (wanted front back : Wanted) (many : ℕ → ℕ → Type 0) (l m n : ℕ)
      → Splits wanted front back → ((x i j : ℕ) → many i j → many (x + i) (x + j))
      → Wrote agrees a b front All l m → Wrote agrees b c back many m n → Wrote agrees a c wanted many l n
  wrote_both a b c wanted front back many l m n split shift g h =
      let both = length-append g.bytes h.bytes in
      record {
        bytes = g.bytes ++ h.bytes;
        got = Appends-trans a b c g.bytes h.bytes g.got h.got;
        count = (let first = g.count in let next = h.count in omega (arith, both, first, next));
        held = λ image is text w.
            let parts = split image text w in
            let x = parts.0 in
            let y = parts.1 in
            let first = g.held image is x parts.3 in
            let next = h.held image is y parts.4 in
            let whole : g.bytes ≡ x = first.1 ∙ take_all (length g.bytes) x (let e = first.0 in omega arith) in
            let size : length text ≡ length g.bytes + length y = ap length parts.2 ∙ length-append x y
            ∙ ap (λ n. n + length y) (sym first.0) in (
              subst (λ n. many n (length text)) (sym both)
                  (subst (many (length g.bytes + length h.bytes)) (sym size) (shift (length g.bytes) _ _ next.0)),
              ap (λ r. g.bytes ++ r) next.1 ∙ sym (take-append-add g.bytes y (length h.bytes))
                  ∙ ap (λ q. take (length g.bytes + length h.bytes) (q ++ y)) whole
                  ∙ ap (take (length g.bytes + length h.bytes)) (sym parts.2) ∙ ap (λ n. take n text) (sym both),
            );
      }

  pub wrote_more : (a b c : Option (List ℕ)) (wanted front back : Wanted) (l m n : ℕ) → Splits wanted front back
      → Wrote agrees a b front All l m → Wrote agrees b c back All m n → Wrote agrees a c wanted All l n
  wrote_more a b c wanted front back l m n split = wrote_both a b c wanted front back All l m n split
      (λ x i j e. ap (λ n. x + n) e)

  -- a part of the front
  wrote_front : (a b : Option (List ℕ)) (wanted front back : Wanted) (many : ℕ → ℕ → Type 0) (m n : ℕ)
      → Splits wanted front back → ((i j x : ℕ) → many i j → many i (j + x))
      → ((i j : ℕ) → many i j → i ≤ j) → Wrote agrees a b front many m n → Wrote agrees a b wanted many m n
  wrote_front a b wanted front back many m n split grow few h = record {
    bytes = h.bytes;
    got = h.got;
    count = h.count;
    held = λ image is text w.
        let parts = split image text w in
        let x = parts.0 in
        let y = parts.1 in
        let first = h.held image is x parts.3 in
        let size : length text ≡ length x + length y = ap length parts.2 ∙ length-append x y in (
          subst (many (length h.bytes)) (sym size) (grow (length h.bytes) (length x) (length y) first.0),
          first.1 ∙ sym (take-append-le (length h.bytes) x y (few (length h.bytes) (length x) first.0))
              ∙ ap (take (length h.bytes)) (sym parts.2),
        );
  }

  -- an error in the first part, and one after it
  pub error_front : (s : Sizes) (a b : Option (List ℕ)) (wanted front back : Wanted) (m : ℕ) (e : StreamError)
      → Splits wanted front back
      → IsWroteError s k agrees a b front m e → IsWroteError s k agrees a b wanted m e
  error_front s a b wanted front back m (stream.Read p n) split h =
      (h.0, wrote_front a b wanted front back First m n split (λ i j x l. omega arith) (λ i j l. l) h.1)
  error_front s a b wanted front back m (stream.Write n) split h =
      wrote_front a b wanted front back NotAll m n split (λ i j x l. omega arith) (λ i j l. omega arith) h
  error_front s a b wanted front back m (stream.Refused c) split h = h
  error_front s a b wanted front back m stream.Memory split h = h

  -- a read that failed after the front was written
  pub error_read : (s : Sizes) (a b : Option (List ℕ)) (wanted front back : Wanted) (m n p : ℕ) → p < blocks_in s k
      → Splits wanted front back
      → Wrote agrees a b front All m n → IsWroteError s k agrees a b wanted m (stream.Read p n)
  error_read s a b wanted front back m n p inside split h = error_front s a b wanted front back m (stream.Read p n) split (
    inside,
    record {
      bytes = h.bytes;
      got = h.got;
      count = h.count;
      held = λ image is text w. let all = h.held image is text w in (let l = all.0 in omega arith, all.1);
    },
  )

  pub error_behind : (s : Sizes) (a b c : Option (List ℕ)) (wanted front back : Wanted) (l m : ℕ) (e : StreamError)
      → Splits wanted front back
      → Wrote agrees a b front All l m → IsWroteError s k agrees b c back m e → IsWroteError s k agrees a c wanted l e
  error_behind s a b c wanted front back l m (stream.Read p n) split g h =
      (h.0, wrote_both a b c wanted front back First l m n split (λ x i j l. omega arith) g h.1)
  error_behind s a b c wanted front back l m (stream.Write n) split g h =
      wrote_both a b c wanted front back NotAll l m n split (λ x i j l. omega arith) g h
  error_behind s a b c wanted front back l m (stream.Refused e) split g h = h
  error_behind s a b c wanted front back l m stream.Memory split g h = h
