-- The fault of an eraseblock by all that is known, in two parts: as far as the candidate that it meets shows, and
-- otherwise by the other members.
use Rattle.ubi_scan.proofs.Prelude.{◌≡◌, ℕ, Bool, true, false, cond, refl, ap, sym, ◌∙◌, Option, Some, None, if◌then◌else◌, option_and_then, option_map, BTreeMap, then_some, option_or, EcRead, VidHeader, VidRead, Stamp, ec_fault, fault_if, header_fault, held_in, is_incompatible, is_mislaid, stamp_cmp, stamp_of, twin_by, twin_held, twin_in, Leb, has_members, member_if, Candidate, ◌==◌}
use Rattle.std.specs.BTreeMap as tree
use Rattle.ubi_media.specs.declared.ec.EcRead.TheVariants as ec_read
use Rattle.ubi_media.specs.declared.refusal.Refusal.TheVariants as refusal
use Rattle.ubi_media.specs.declared.vid.VidRead.TheVariants as vid_read

-- the member among the others that has the stamp of a header
abbrev pub aside_in : BTreeMap Stamp ℕ → Option VidHeader → Option ℕ
aside_in others h = option_and_then (λ h. tree.get stamp_cmp others (stamp_of h)) h

none_after : {X : Type 0} (o : Option X) → option_or o None ≡ o
none_after None = refl
none_after (Some x) = refl

or_assoc : {X : Type 0} (a b c : Option X) → option_or a (option_or b c) ≡ option_or (option_or a b) c
or_assoc None b c = refl
or_assoc (Some x) b c = refl

twin_parts : (p : ℕ) (held : Option Candidate) (other : Option ℕ) (sqnum : ℕ)
    → option_map (refusal.SameSqnum p) (twin_by held other sqnum)
    ≡ option_or (option_map (refusal.SameSqnum p) (twin_by held None sqnum)) (option_map (refusal.SameSqnum p) other)
twin_parts p None other sqnum = refl
twin_parts p (Some held) other sqnum = elim (held.sqnum == sqnum) as
    (λ b. option_map (refusal.SameSqnum p) (cond b (Some held.peb) other)
    ≡ option_or (option_map (refusal.SameSqnum p) (cond b (Some held.peb) None)) (option_map (refusal.SameSqnum p) other))
    [ true ↦ refl | false ↦ refl ]

-- of a member
member_parts : (p : ℕ) (held : Option Candidate) (other : Option ℕ) (h : VidHeader)
    → (if is_mislaid h then Some (refusal.Layout p) else option_map (refusal.SameSqnum p) (twin_by held other h.sqnum))
    ≡ option_or (if is_mislaid h then Some (refusal.Layout p) else option_map (refusal.SameSqnum p)
    (twin_held held h)) (option_map (refusal.SameSqnum p) other)
member_parts p held other h = elim (is_mislaid h) as
    (λ b. (cond b (Some (refusal.Layout p)) (option_map (refusal.SameSqnum p) (twin_by held other h.sqnum)))
    ≡ option_or (cond b (Some (refusal.Layout p)) (option_map (refusal.SameSqnum p) (twin_held held h)))
    (option_map (refusal.SameSqnum p) other))
    [ true ↦ refl | false ↦ twin_parts p held other h.sqnum ]

header_parts : (p : ℕ) (best : BTreeMap Leb Candidate) (others : BTreeMap Stamp ℕ) (held : Option Candidate)
    (h : VidHeader) (m : Bool) → held ≡ held_in best (then_some m h)
    → (if m then (if is_mislaid h then Some (refusal.Layout p) else option_map (refusal.SameSqnum p)
    (twin_in best others (stamp_of h))) else (if is_incompatible h then Some
    (refusal.Incompatible p h.vol_id) else None))
    ≡ option_or (if m then (if is_mislaid h then Some (refusal.Layout p) else option_map (refusal.SameSqnum p)
    (twin_held held h)) else (if is_incompatible h then Some (refusal.Incompatible p h.vol_id) else None))
    (option_map (refusal.SameSqnum p) (aside_in others (then_some m h)))
header_parts p best others held h true e =
    ap (λ (o : Option Candidate). if is_mislaid h then Some (refusal.Layout p) else option_map (refusal.SameSqnum p)
    (twin_by o (tree.get stamp_cmp others (stamp_of h)) h.sqnum)) (sym e)
    ∙ member_parts p held (tree.get stamp_cmp others (stamp_of h)) h
header_parts p best others held h false e = sym (none_after _)

-- the fault of an eraseblock that has these headers, by the candidate that it meets, or else by the other members
pub fault_parts : (p known : ℕ) (best : BTreeMap Leb Candidate) (others : BTreeMap Stamp ℕ) (held : Option Candidate)
    (e : EcRead) (v : VidRead) → held ≡ held_in best (member_if e v)
    → fault_if p known (λ h. twin_in best others (stamp_of h)) e v
    ≡ option_or (fault_if p known (twin_held held) e v)
    (option_map (refusal.SameSqnum p) (aside_in others (member_if e v)))
fault_parts p known best others held ec_read.Blank v k = refl
fault_parts p known best others held e (vid_read.Valid h) k =
    ap (option_or (ec_fault p known e)) (header_parts p best others held h (has_members h.vol_id) k)
    ∙ or_assoc (ec_fault p known e) (header_fault p (twin_held held h) h)
    (option_map (refusal.SameSqnum p) (aside_in others (then_some (has_members h.vol_id) h)))
fault_parts p known best others held e v k = sym (none_after _)
