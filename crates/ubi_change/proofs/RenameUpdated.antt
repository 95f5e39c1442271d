-- A plan of edits that is a rename is the plan of the rename, and what holds of the commit holds of it.
use Rattle.ubi_change.proofs.Prelude.{◌≡◌, ℕ, ◌+◌, ◌≤◌, Bool, true, false, cond, not, List, [], ◌∷◌, length, refl, ap, sym, ◌∙◌, subst, arith, None, Option, Some, option_map, option_map_or, then_some, nat_lt, AllByRecursion, AreBytes, Sizes, Image, eraseblocks, is_name, VolumeRecord, records_of, record_of, AcceptsBlocks, AttachValue, Meant, IsMeaning, Volume, volume_named, avoiding, Avoided, ReadSame, renamed, renamed_pages, MayBeNamed, HasName, RenameFacts, SurvivesRename, SurvivesTears, KeepsReading, LeavesBoth, IsFrugalCommit, IsFrugalRename, SurvivesCommit, RisesBetweenErases, AllFit, Avoids, turn, table_pages, weak_pages, blocks_after, commit_needs, edits_plan, edited_in, Laid, Step, plan_groups, in_order, UpdatePlan, IsUpdateFor, EditFault}
use Rattle.std.specs.FinMap as finite
use Rattle.ubi_change.specs.Edited.{Edit}
use Rattle.ubi_change.specs.declared.edit.Edit.TheVariants as asking
use Rattle.ubi_change.specs.declared.errors.EditFault.TheVariants as fault
use Rattle.ubi_change.specs.declared.errors.UpdateRefusal.TheVariants as refusal
use Rattle.ubi_change.proofs.EditedRecords.{edited_are}
use Rattle.ubi_change.proofs.RenameCommits.{edited-is, laid-none, one, plan-is}
use Rattle.ubi_change.proofs.RenamedMeaning.{renamed_here, renamed_same, renamed_there}

module _ (image : Image) (av : Avoided) (id : ℕ) (name contents : List ℕ) (p : UpdatePlan)
    (is : IsUpdateFor image av contents (asking.Rename id name ∷ []) p) where
  abbrev s : Sizes
  s = image.sizes

  abbrev bs : List (List ℕ)
  bs = eraseblocks image

  -- the image as the plan sees it
  abbrev a : AttachValue
  a = avoiding av is.from

  abbrev m : Meant
  m = is.from.meaning

  abbrev ends : List ℕ
  ends = av.ends

  abbrev es : List Edit
  es = one s bs ends m id name

  named : edited_in s bs ends m es ≡ renamed m id name
  named = edited-is s bs ends m id name

  needs : commit_needs s bs ends a es ≡ 2
  needs = ap (λ (ls : List Laid). length ls + 2) (laid-none s bs ends m id name)

  -- the edit has no fault
  abbrev fault_by : Option VolumeRecord → Bool → Option (ℕ × EditFault)
  fault_by o b = option_map_or (λ f. Some (0, f)) (option_map_or (λ r. then_some (not b) fault.BadName) o (Some fault.NoVolume)) None

  there : (v : Volume) × (finite.get m.volumes id ≡ Some v)
  there = is.allowed.there.0

  is_named : is_name name ≡ true
  is_named = by (is_name name) (λ e.
      is.none (refusal.Edit 0 fault.BadName)
      (ap (λ o. fault_by o (is_name name)) (record_of m id ∙ ap (option_map (λ (v : Volume). v.entry)) there.1)
      ∙ ap (fault_by (Some there.0.entry)) e))
    where
      by : (b : Bool) → (b ≡ false → ⊥) → b ≡ true
      by true h = refl
      by false h = absurd (h refl)

  next : IsMeaning (renamed m id name)
  next = subst IsMeaning named is.allowed.meaning

  free : (slot : ℕ) → HasName a id name slot → ⊥
  free slot h = h.0 (next.names slot id h.1 (volume_named there.0 name)
      (renamed_there m id name there.0 there.1 slot h.0 ∙ h.2) (renamed_here m id name there.0 there.1) h.3)

  may_be_named : MayBeNamed s bs a id name
  may_be_named = record {
    volume = there.0;
    there = there.1;
    named = is_named;
    free = free;
    both = is.allowed.both;
    strong = ap (λ (n : Meant). weak_pages s (table_pages s (records_of n))) (sym named) ∙ is.allowed.strong;
    few = (let f = is.allowed.few in omega (arith, f, needs));
    enough = (let e = is.allowed.enough in omega (arith, e, needs));
  }

  module _ (steps : List Step) (made : steps ≡ in_order (plan_groups s p contents)) where
    -- what holds of the commit and of what it makes holds of the steps and of the renamed meaning
    has : (F : Meant → List Step → Type 0) → F (edited_in s bs ends m es) (edits_plan s bs ends a es) → F (renamed m id name) steps
    has F h = subst (F (renamed m id name)) (sym (made ∙ is.plan)) (subst (λ (n : Meant). F n (edits_plan s bs ends a es)) named h)

    survives : SurvivesRename s bs m id name steps
    survives =
        let h = has (SurvivesCommit s bs m) is.facts.survives in
        record { two_copies = h.two_copies; comes = h.comes; each = h.each }

    reads : KeepsReading image steps
    reads = (
      m,
      is.attached.accepted,
      λ k l. by k l (nat_lt k (turn s steps (renamed_pages s m id name))) (survives.each k l),
    )
      where
        by : (k : ℕ) → k ≤ length steps → (b : Bool) → AcceptsBlocks s (blocks_after s bs steps k) (cond b m (renamed m id name))
            → (z : Meant) × AcceptsBlocks s (blocks_after s bs steps k) z × ReadSame m z
        by k l true accepted = (m, accepted, λ i. refl)
        by k l false accepted = (renamed m id name, accepted, renamed_same m id name)

    frugal : IsFrugalRename s bs a id name steps
    frugal =
        let h = subst (λ n. IsFrugalCommit s bs a n (renamed m id name) steps) needs
        (has (IsFrugalCommit s bs a (commit_needs s bs ends a es)) is.facts.frugal) in
        record { touches = h.touches; gives_up = h.gives_up; counts = h.counts }

    fits : AreBytes p.pages.items → AllFit s bs steps
    fits bytes = has (λ n xs. AllFit s bs xs) (is.facts.fits (record {
      texts = subst (AllByRecursion (λ l. AreBytes l.text)) (sym (laid-none s bs ends m id name)) tt;
      pages = subst AreBytes
          (is.pages ∙ ap (table_pages s) (sym (edited_are s bs ends m is.attached.accepted.accepted.means.sizes contents (asking.Rename id name ∷ []))))
          bytes;
    }))

    pub rename_facts : AreBytes p.pages.items → RenameFacts image av id name steps
    rename_facts bytes = record {
      survives = (m, is.attached.accepted, survives);
      torn = (
        m,
        is.attached.accepted,
        has (λ n xs. SurvivesTears s bs m n xs (turn s xs (table_pages s (records_of n)))) is.facts.torn,
      );
      reads = reads;
      copies = (m, is.attached.accepted, has (LeavesBoth s bs) is.facts.copies);
      fits = fits bytes;
      rises = has (λ n xs. RisesBetweenErases s bs xs) is.facts.rises;
      frugal = (is.from, is.attached, frugal);
      plan = record {
        from = is.from;
        attached = is.attached;
        allowed = may_be_named;
        plan = made ∙ is.plan ∙ plan-is s bs ends a id name;
      };
      avoids = has (λ n xs. Avoids s bs av xs) is.facts.avoids;
      blank = is.blank;
    }
