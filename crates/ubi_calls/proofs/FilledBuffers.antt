-- What a buffer that was filled from its beginning holds, and what is answered about it.
use Rattle.ubi_calls.proofs.Prelude.{[], List, ap, ap₂, append-nil, arith, drop, length, refl, subst, sym, take, ℕ, ◌++◌, ◌∙◌, ◌≡◌, ◌≢◌, ◌≤◌, drop_all, length-take, take-append-drop, take_all, Err, IfErr, Ok, Result, Outcome, ToolError, Streams, MayTell, ended, filled, no_memory, put_into, uncounted, Leaves, IsUnwritten, Writes, said, wrote}
use Rattle.std.proofs.Common.{Some}
use Rattle.ubi_files.specs.declared.outcome.ToolError.TheVariants as tool

module _ (before out : List ℕ) (n : ℕ) (within : n ≤ length out) (room : length out ≡ length before)
    (rest : drop n out ≡ drop n before) where
  -- how many bytes were taken
  count : (bytes : List ℕ) → take n out ≡ bytes → length bytes ≡ n
  count bytes is = sym (ap length is) ∙ (let e = length-take n out in omega (arith, e))

  -- those that were taken stand in it, and behind them what it held
  taken : (bytes : List ℕ) → take n out ≡ bytes → out ≡ put_into bytes before
  taken bytes is =
      let many = count bytes is in
      sym (take-append-drop n out)
      ∙ ap₂ (λ (x y : List ℕ). x ++ y) (is ∙ sym (take_all (length before) bytes (omega arith))) (rest ∙ ap (λ k. drop k before) (sym many))

  -- where none were, it is as it was
  kept : take n out ≡ [] → out ≡ before
  kept is = subst (λ k. drop k out ≡ drop k before) (sym (count [] is)) rest

  module _ (told : MayTell) where
    -- where all was written, it has all that there is room for
    pub whole : (o : Outcome) (status : ℕ) → Writes told (Some []) (Some (take n out)) o → o.status ≡ 0 → status ≡ 0
        → Streams told before out n status
    whole o status (wrote bytes is zero got) done ends = ended (filled bytes 0 is (taken bytes got) (sym (count bytes got)) ends)
    whole o status (said is one keeps) done ends = absurd (let bad = sym one ∙ done in cc)

    -- where a line is told, that is handed over
    pub line : {new : List ℕ} {len status : ℕ} (o : Outcome) → Writes told (Some []) (Some (take n out)) o → o.status ≢ 0
        → Leaves o.text.items o.status out new len status → Streams told before new len status
    line o (wrote bytes is zero got) bad leaves = absurd (bad zero)
    line o (said is one keeps) bad leaves =
        ended (filled o.text.items 1 is (leaves.0 ∙ ap (put_into o.text.items) (kept keeps)) leaves.1 (leaves.2 ∙ one))

    -- where a write failed, it has the first bytes
    first : IsUnwritten told (Some []) (Some (take n out)) tool.Write → Streams told before out 0 3
    first (bytes, k, is, short, got) =
        let many = count (take k bytes) got in
        uncounted bytes 0 k is (taken (take k bytes) got) refl refl

    -- and where memory ran out it is as it was
    pub unended : (work : Result Outcome ToolError) (e : ToolError) → work ≡ Err e
        → IfErr work (IsUnwritten told (Some []) (Some (take n out))) → Streams told before out 0 3
    unended (Ok o) e is h = absurd (cc)
    unended (Err tool.Memory) e is h = ended (no_memory (kept h) refl refl)
    unended (Err tool.Read) e is h = absurd h
    unended (Err tool.Write) e is h = first h

-- a full buffer has all that there is room for, once the bytes are counted; and else the first of them
module _ (told : MayTell) (before out : List ℕ) (room : length out ≡ length before)
    (h : IsUnwritten told (Some []) (Some out) tool.Write) where
  pub counted : (many status : ℕ) → ((x y : List ℕ) → told x 0 → told y 0 → x ≡ y)
      → (bytes : List ℕ) × told bytes 0 × (many ≡ length bytes) → status ≡ 0 → Streams told before out many status
  counted many status one (other, is, counts) ends =
      let bytes = h.0 in
      let n = h.1 in
      let short = h.3 in
      let full : length out ≡ n = ap length h.4 ∙ (let e = length-take n bytes in omega (arith, e, short)) in
      let is_put : out ≡ put_into bytes before =
      h.4 ∙ sym (ap₂ (λ (x y : List ℕ). x ++ y) (ap (λ k. take k bytes) (sym room ∙ full)) (drop_all (length bytes) before (omega (arith, short)))
      ∙ append-nil (take n bytes)) in
      ended (filled bytes 0 h.2 is_put (counts ∙ ap length (one other bytes is h.2)) ends)

  pub uncounted_full : Streams told before out 0 3
  uncounted_full =
      let is = take_all (length out) out (omega arith) in
      let rest = drop_all (length out) out (omega arith) ∙ sym (drop_all (length out) before (omega arith)) in
      first before out (length out) (omega arith) room rest told (h.0, h.1, h.2, h.3, is ∙ h.4)
