-- What outcomes say.
use Rattle.ubi_dumps.proofs.Prelude.{AllocError, Appends, Err, Files, ForSome, Global, Holds, IfOk, IsKept, IsSome, List, MatchResult, Memory, Ok, Option, OthersStay, Outcome, Receives, Result, Tells, Told, Unread, Vec, ap, contents_of, fresh, option_map, refl, subst, sym, ℕ, ◌∙◌, ◌≡◌, None}
use Rattle.std.proofs.Common.{Some, None}

-- work that was done isn't refused
pub not_both : (o : Outcome) → o.status ≡ 0 → o.status ≡ 1 → ⊥
not_both o zero one = let e = sym zero ∙ one in cc

-- what is answered in place of an image is what is told
pub told : (is : Outcome → Type 0) (u : Unread) (r : Result Outcome AllocError) → Tells is u
    → MatchResult r (λ o. u ≡ Told o) (λ _. u ≡ Memory) → IfOk r is
told is u (Ok o) h e = subst (Tells is) e h
told is u (Err x) h e = tt

-- the file at a path holds what a late file received that was opened and closed
pub holds_received : {F : Type 0} (contents : F → Option (List ℕ)) (at : F → List ℕ) (d e : Files) (path key : List ℕ)
    (empty : Option (List ℕ)) (file : Option F) → path ≡ key → IsSome file → ForSome file (λ f. at f ≡ key)
    → ForSome file (λ f. IsKept d e (at f) (contents f)) → Holds e path (contents_of empty contents file)
holds_received contents at d e path key empty None named some is kept = absurd cc
holds_received contents at d e path key empty (Some f) named some is kept =
    subst (λ (p : List ℕ). Holds e p (contents f)) (is f refl ∙ sym named) (kept f refl).named

-- and other paths hold what they held
pub others_stay : {F : Type 0} (contents : F → Option (List ℕ)) (at : F → List ℕ) (d e : Files) (path key : List ℕ)
    (file : Option F) → path ≡ key → ForSome file (λ f. at f ≡ key) → ForSome file (λ f. IsKept d e (at f) (contents f))
    → (file ≡ None → e ≡ d) → OthersStay d e path
others_stay contents at d e path key None named is kept none other apart = ap (λ (x : Files). x.holds other) (none refl)
others_stay contents at d e path key (Some f) named is kept none other apart =
    (kept f refl).others other (λ same. apart (same ∙ is f refl ∙ sym named))

-- a file that was opened first, and then closed, received what it did, and other paths hold what they held before both
pub kept_after : (d m e : Files) (path : List ℕ) (received : Option (List ℕ)) → OthersStay d m path → IsKept m e path received
    → IsKept d e path received
kept_after d m e path received since kept =
    record { named = kept.named; others = λ other apart. kept.others other apart ∙ since other apart }

pub kept_since : {F : Type 0} (contents : F → Option (List ℕ)) (at : F → List ℕ) (d m e : Files) (key : List ℕ) (file : Option F)
    → OthersStay d m key → ForSome file (λ f. at f ≡ key) → ForSome file (λ f. IsKept m e (at f) (contents f))
    → ForSome file (λ f. IsKept d e (at f) (contents f))
kept_since contents at d m e key file since is kept f some =
    kept_after d m e (at f) (contents f) (λ other apart. since other (λ same. apart (same ∙ sym (is f some)))) (kept f some)

-- the file received bytes that were written into it
pub receives : (d e : Files) (path : List ℕ) (file : Option (Vec ℕ Global)) (v : Vec ℕ Global) (empty received : Option (List ℕ))
    → file ≡ Some v → fresh d ≡ empty → Holds e path received → Appends empty received v.items
    → Receives d e path (option_map (λ v. v.items) file)
receives d e path file v empty received is same holds h =
    rw is (received, subst (λ (x : Option (List ℕ)). Appends x received v.items) (sym same) h, holds)

-- an outcome without a file leaves the file as it was
pub no_bytes : (d : Files) (path : List ℕ) (file : Option (Vec ℕ Global)) → file ≡ None
    → Receives d d path (option_map (λ v. v.items) file)
no_bytes d path file is = rw is refl
