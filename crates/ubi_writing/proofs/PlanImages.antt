-- What is known of the bad eraseblocks of an image that is opened for a plan.
use Rattle.ubi_writing.proofs.Prelude.{FitsWhole, Hidden, Sizes, whole, [], false, true, ◌+◌, ◌++◌, ◌<◌, ◌≡◌, ◌∙◌, ◌∷◌, ◌*◌, ◌/◌, Bool, Dump, Files, IfSome, IsHiddenAt, None, Option, Some, Outcome, ap, arith, bare, cond, drop, get_or, length, masked, min, option_map, option_map_or, refl, sizes_of, subst, suc, sym, take, zero, ℕ, List, replicate, hidden_in, same_lists, get_or-masked, length-masked, masked-take, bad_marks, IsJudgedOf, before, blocks_before, marks_of, seen, viewed, IsRead, IsUnseen, unfit, unfit_whole, unreadable, pages_of, part_of, seen_of, is_listed, blocks_of}

-- why a dump can't be opened doesn't depend on its bad eraseblocks
pub unseen_bare : (d : Files) (dump : Dump) (path : List ℕ) (o : Outcome) → IsUnseen d (bare dump) path o → IsUnseen d dump path o
unseen_bare d dump path o (unreadable h) = unreadable h
unseen_bare d dump path o (unfit n m limits held misfit gives) = unfit n m limits held misfit gives
unseen_bare d dump path o (unfit_whole n m limits held misfit gives) = unfit_whole n m limits held misfit gives

-- what is marked among the first ones is marked with more behind them too
first_listed : (n q : ℕ) (behind : List Bool) → is_listed (replicate n true ++ []) q ≡ true → is_listed (replicate n true ++ behind) q ≡ true
first_listed zero q behind h = absurd (cc)
first_listed (suc n) zero behind h = refl
first_listed (suc n) (suc q) behind h = first_listed n q behind h

drop_none : (marks : List Bool) (n : ℕ) → marks ≡ [] → drop n marks ≡ []
drop_none marks zero e = e
drop_none [] (suc n) e = refl
drop_none (m ∷ marks) (suc n) e = absurd (cc)

more_listed : (dump : Dump) (q : ℕ) → is_listed (marks_of (bare dump)) q ≡ true → is_listed (marks_of dump) q ≡ true
more_listed dump q h =
    let n = min (sizes_of dump.numbers).pebs (blocks_before dump) in
    first_listed n q (drop n (option_map_or (λ list. bad_marks (sizes_of dump.numbers).pebs list.now) dump.bad []))
    (ap (λ xs. is_listed (replicate n true ++ xs) q) (sym (drop_none [] n refl)) ∙ h)

-- what is masked twice is masked by the second marks, if they have all of the first
module _ (size : ℕ) (few many : List Bool) (more : (q : ℕ) → is_listed few q ≡ true → is_listed many q ≡ true) (bytes : List ℕ) where
  once : (m f : Bool) (x : ℕ) → (f ≡ true → m ≡ true) → cond m 0xFF (cond f 0xFF x) ≡ cond m 0xFF x
  once true f x h = refl
  once false false x h = refl
  once false true x h = let e = h refl in absurd (cc)

  pub masked_again : masked size many (masked size few bytes) ≡ masked size many bytes
  masked_again = same_lists (masked size many (masked size few bytes)) (masked size many bytes)
      (length-masked size many (masked size few bytes) ∙ length-masked size few bytes ∙ sym (length-masked size many bytes))
      (λ k d l.
      let long = length-masked size many (masked size few bytes) in
      let whole = length-masked size few bytes in
      let here : k < length bytes = omega (arith, l, long, whole) in
      get_or-masked size many (masked size few bytes) k d (omega (arith, here, whole))
      ∙ ap (λ x. cond (is_listed many (k / size)) 0xFF x) (get_or-masked size few bytes k d here)
      ∙ once (is_listed many (k / size)) (is_listed few (k / size)) (get_or bytes k d) (more (k / size))
      ∙ sym (get_or-masked size many bytes k d here))

-- the judged bytes of a file with its bad eraseblocks, once these are masked, are those of the file as it is seen
pub masked_judged : (d : Files) (dump : Dump) (path bytes : List ℕ) → IsJudgedOf (seen (bare dump) d) path (sizes_of dump.numbers) bytes
    → IsJudgedOf (seen dump d) path (sizes_of dump.numbers) (masked (sizes_of dump.numbers).peb_size (marks_of dump) bytes)
masked_judged d dump path bytes judged = by (d.holds path) judged
  where
    s : Sizes
    s = sizes_of dump.numbers

    by : (held : Option (List ℕ)) → IfSome (option_map (viewed (bare dump)) held) (λ all. bytes ≡ seen_of s all)
        → IfSome (option_map (viewed dump) held) (λ all. masked s.peb_size (marks_of dump) bytes ≡ seen_of s all)
    by None is = tt
    by (Some all) is =
        let xs = before dump ++ pages_of s.page dump.oob (part_of dump.part all) in
        let n = s.pebs * s.peb_size + 1 in
        ap (masked s.peb_size (marks_of dump)) (is ∙ sym (masked-take s.peb_size (marks_of (bare dump)) n xs))
        ∙ masked_again s.peb_size (marks_of (bare dump)) (marks_of dump) (more_listed dump) (take n xs)
        ∙ masked-take s.peb_size (marks_of dump) n xs

-- what the bytes of an image name that was read whole is hidden
pub hidden_whole : (d : Files) (dump : Dump) (path bytes : List ℕ) (h : Hidden) → IsRead (sizes_of dump.numbers) bytes
    → IsJudgedOf (seen (bare dump) d) path (sizes_of dump.numbers) bytes → FitsWhole d (bare dump) path
    → h ≡ hidden_in (sizes_of dump.numbers) (blocks_of (sizes_of dump.numbers) bytes) (marks_of dump) → IsHiddenAt d dump path h
hidden_whole d dump path bytes h read judged fits found = whole bytes read judged fits (λ held is few.
    found ∙ ap (λ xs. hidden_in (sizes_of dump.numbers) (blocks_of (sizes_of dump.numbers) xs) (marks_of dump)) (sym is))

-- an image that was read whole, once it is masked, is that of the dump
pub whole_masked : (d : Files) (dump : Dump) (path bytes now : List ℕ) → IsRead (sizes_of dump.numbers) bytes
    → IsJudgedOf (seen (bare dump) d) path (sizes_of dump.numbers) bytes
    → now ≡ masked (sizes_of dump.numbers).peb_size (marks_of dump) bytes
    → IsRead (sizes_of dump.numbers) now × IsJudgedOf (seen dump d) path (sizes_of dump.numbers) now
whole_masked d dump path bytes now read judged are =
    let s = sizes_of dump.numbers in
    let long = ap length are ∙ length-masked s.peb_size (marks_of dump) bytes in (
      record { limits = read.limits; few = (let few = read.few in omega (arith, few, long)) },
      subst (IsJudgedOf (seen dump d) path s) (sym are) (masked_judged d dump path bytes judged),
    )
