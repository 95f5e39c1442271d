-- What was read for edits holds for whatever the sources may hold.
use Rattle.ubi_change.proofs.Prelude.{raised, UpdateRefusal, slice_get, ◌≡◌, ℕ, ◌+◌, ◌≤◌, List, length, Err, None, Some, AllByRecursion, IsGeometry, Sizes, Source, image_of, blocks_of, IsSurvey, Seen, Avoided, states_avoiding, Holders, first_taken, subst, sym, ap₂, ◌∙◌, Agreed, touchable, all_asked, first_beyond, news_of, all_layings, groups_from, in_order, IsUpdateFor, IsBased, IsBeside, AreHolders, Edit, UpdatePlan, Based, refl, Part, Narrows, WhereHeld, contents_after_update, IsUpdateCause, IsUpdateError, IsContentsError, IsSitesError, IsUnbased, Laying, UpdateError}
use Rattle.ubi_change.proofs.BlankListed.{survey_blank}
use Rattle.ubi_change.proofs.CommitKept.{commit_avoiding}
use Rattle.ubi_change.proofs.PlanBeside.{survey_beside}
use Rattle.ubi_change.proofs.Surveys.{whole}
use Rattle.ubi_change.proofs.Touchable.{none_beyond}
use Rattle.ubi_change.proofs.UpdateMade as make
use Rattle.std.specs.Prelude.{[]}
use Rattle.ubi_change.specs.declared.errors.UpdateError.TheVariants as error
use Rattle.ubi_change.specs.declared.errors.UpdateRefusal.TheVariants as refusal

module _ (s : Sizes) (g : IsGeometry s) (k : Source) (agrees : Agreed) (av : Avoided) (es : List Edit) (b : Based) (is : IsBased s k agrees av es b)
    (bytes : List ℕ) (holds : agrees bytes) (contents : List ℕ) (size : ℕ) (sized : length contents ≡ size)
    (inside : first_beyond size es ≡ None) where
  abbrev seen : Seen
  seen = b.surveyed

  survey : IsSurvey (image_of s bytes) seen
  survey = is.survey.held bytes holds

  reach : AllByRecursion (λ v. v.start + v.len ≤ length contents) (news_of es)
  reach = subst (λ n. AllByRecursion (λ v. v.start + v.len ≤ n) (news_of es)) (sym sized) (none_beyond size es inside)

  pub update_is : (p : UpdatePlan) → p.surveyed ≡ b.surveyed → p.above ≡ av.above → p.pages.items ≡ b.ready.pages.items → p.holders ≡ b.ready.holders
      → p.parts.items ≡ b.ready.parts.items → p.layings.items ≡ all_layings s contents b.ready.parts.items
      → p.sites.items ≡ first_taken s (blocks_of s bytes) (states_avoiding av seen.states) (length p.layings.items + 2)
      → length p.layings.items + 2 ≤ length p.sites.items
      → (raised av.above seen.scan).top_sqnum + (length p.layings.items + 2) ≤ 0xFFFFFFFFFFFFFFFF
      → IsUpdateFor (image_of s bytes) av contents es p
  update_is p surveyed above pages holders parts laid taking enough few =
      let image = image_of s bytes in
      let room = touchable av seen.states in
      let are = is.read bytes holds survey in
      let held = is.holders.held bytes holds in
      let blank = survey_blank image seen survey av is.blank in
      let may = make.allowed image av seen survey contents room es is.wholes are (Some b.ready.holders) b.ready is.ready reach p.layings.items laid
      held is.most p.sites.items taking enough few in
      record {
        from = whole image seen survey;
        attached = survey.attached;
        blank = blank;
        none = make.no_cause image av seen survey contents room es is.wholes are (Some b.ready.holders) b.ready is.ready reach p.layings.items laid
            held is.most p.sites.items taking enough few;
        allowed = may;
        parts = parts ∙ make.parts_are image av seen survey contents room es is.wholes are (Some b.ready.holders) b.ready is.ready;
        pages = pages ∙ make.pages_are image av seen survey contents room es is.wholes are (Some b.ready.holders) b.ready is.ready;
        layings = make.layings_are image av seen survey contents room es is.wholes are (Some b.ready.holders) b.ready is.ready reach p.layings.items laid;
        plan = ap₂ (λ (v : Seen) (n : ℕ). in_order (groups_from s (raised n v.scan) contents p.pages.items p.holders 0 p.layings.items p.sites.items))
            surveyed above
            ∙ ap₂ (λ (pages : List ℕ) (old : Holders). in_order (groups_from s (raised av.above seen.scan) contents pages old 0 p.layings.items p.sites.items)) pages holders
            ∙ make.plan_is image av seen survey contents room es is.wholes are (Some b.ready.holders) b.ready is.ready reach p.layings.items laid
            held is.most p.sites.items taking enough few g;
        facts = commit_avoiding image av (whole image seen survey) (all_asked s contents es) g survey.attached blank may;
      }

-- why edits of a source have no plan, by why they have no base
pub unbased_is : (s : Sizes) (k : Source) (agrees : Agreed) (size at : ℕ) (agreed : Agreed) (av : Avoided) (es : List Edit) (e : UpdateError)
    → IsUnbased s k agrees av es e → IsUpdateError s k agrees size at agreed av es e
unbased_is s k agrees size at agreed av es (error.Beyond i) h = absurd h
unbased_is s k agrees size at agreed av es (error.Contents id) h = absurd h
unbased_is s k agrees size at agreed av es (error.Read p) h = h
unbased_is s k agrees size at agreed av es (error.NotBlank p) h = h
unbased_is s k agrees size at agreed av es (error.Refused refusal.Memory) h = tt
unbased_is s k agrees size at agreed av es (error.Refused (refusal.Attach c)) h = h
unbased_is s k agrees size at agreed av es (error.Refused (refusal.Edit i f)) h = (h.0, λ bytes holds contents is. h.1 bytes holds contents)
unbased_is s k agrees size at agreed av es (error.Refused (refusal.SameName i j)) h = (h.0, λ bytes holds contents is. h.1 bytes holds contents)
unbased_is s k agrees size at agreed av es (error.Refused (refusal.NoSlot i j)) h = (h.0, λ bytes holds contents is. h.1 bytes holds contents)
unbased_is s k agrees size at agreed av es (error.Refused (refusal.NoSpace i j)) h = (h.0, λ bytes holds contents is. h.1 bytes holds contents)
unbased_is s k agrees size at agreed av es (error.Refused (refusal.Autoresize i j)) h = (h.0, λ bytes holds contents is. h.1 bytes holds contents)
unbased_is s k agrees size at agreed av es (error.Refused refusal.NeedsRepair) h = (h.0, λ bytes holds contents is. h.1 bytes holds contents)
unbased_is s k agrees size at agreed av es (error.Refused (refusal.WeakCheck n)) h = (h.0, λ bytes holds contents is. h.1 bytes holds contents)
unbased_is s k agrees size at agreed av es (error.Refused refusal.Exhausted) h = (h.0, λ bytes holds contents is. h.1 bytes holds contents)
unbased_is s k agrees size at agreed av es (error.Refused (refusal.NoFree n m)) h = (h.0, λ bytes holds contents is. h.1 bytes holds contents)

-- of the source of contents nothing more is known then
pub unbased_known : (s : Sizes) (k : Source) (agrees : Agreed) (av : Avoided) (es : List Edit) (j : Source) (e : UpdateError)
    → IsUnbased s k agrees av es e → contents_after_update {A = UpdatePlan} j (Err e) ≡ j
unbased_known s k agrees av es j (error.Beyond i) h = absurd h
unbased_known s k agrees av es j (error.Contents id) h = absurd h
unbased_known s k agrees av es j (error.Read p) h = refl
unbased_known s k agrees av es j (error.NotBlank p) h = refl
unbased_known s k agrees av es j (error.Refused c) h = refl

-- nor if no eraseblocks were taken
pub sites_known : (s : Sizes) (k : Source) (agrees : Agreed) (av : Avoided) (v : Seen) (needs : ℕ) (j : Source) (e : UpdateError)
    → IsSitesError s k agrees av v needs e → contents_after_update {A = UpdatePlan} j (Err e) ≡ j
sites_known s k agrees av v needs j (error.Beyond i) h = absurd h
sites_known s k agrees av v needs j (error.Contents id) h = absurd h
sites_known s k agrees av v needs j (error.Read p) h = refl
sites_known s k agrees av v needs j (error.NotBlank p) h = absurd h
sites_known s k agrees av v needs j (error.Refused c) h = refl

-- and if a read of contents failed, that one did
pub contents_known : (j : Source) (ps : List Part) (at : ℕ) (e : UpdateError) → IsContentsError ps at e
    → contents_after_update {A = UpdatePlan} j (Err e) ≡ contents_after_update {A = List Laying} j (Err e)
contents_known j ps at (error.Contents i) h = refl
contents_known j ps at (error.Refused c) h = refl
contents_known j ps at (error.Read p) h = absurd h
contents_known j ps at (error.NotBlank p) h = absurd h
contents_known j ps at (error.Beyond i) h = absurd h

module _ (s : Sizes) (k : Source) (agrees : Agreed) (av : Avoided) (es : List Edit) (b : Based) (is : IsBased s k agrees av es b) where
  survey_now : (bytes : List ℕ) → agrees bytes → IsSurvey (image_of s bytes) b.surveyed
  survey_now bytes holds = is.survey.held bytes holds

  -- a read of contents that failed
  pub contents_unread_is : (size at : ℕ) (agreed : Agreed) (e : UpdateError) → IsContentsError b.ready.parts.items at e
      → IsUpdateError s k agrees size at agreed av es e
  contents_unread_is size at agreed (error.Refused c) h =
      subst (λ (d : UpdateRefusal). IsUpdateError s k agrees size at agreed av es (error.Refused d)) (sym h) tt
  contents_unread_is size at agreed (error.Contents i) h = λ bytes holds.
      (let image = image_of s bytes in
      let survey = survey_now bytes holds in
      let same = make.parts_are image av b.surveyed survey [] (touchable av b.surveyed.states) es is.wholes (is.read bytes holds survey)
      (Some b.ready.holders) b.ready is.ready in
      record {
        from = whole image b.surveyed survey;
        attached = survey.attached;
        part = h.0;
        asked = subst (λ (ps : List Part). slice_get ps i ≡ Some h.0) same h.1;
        begins = h.2;
        ends = h.3;
      })
  contents_unread_is size at agreed (error.Read p) h = absurd h
  contents_unread_is size at agreed (error.NotBlank p) h = absurd h
  contents_unread_is size at agreed (error.Beyond i) h = absurd h

  -- none of the eraseblocks of a plan is listed, if the source can hold anything
  pub update_beside : (now : Agreed) → Narrows agrees now → (p : UpdatePlan) (n : ℕ) → p.holders ≡ b.ready.holders
      → WhereHeld now (λ bytes. p.sites.items ≡ first_taken s (blocks_of s bytes) (states_avoiding av b.surveyed.states) n)
      → WhereHeld now (λ bytes. IsBeside av.marks p)
  update_beside now narrows p n same taken bytes holds =
      let image = image_of s bytes in
      let before = narrows bytes holds in
      let survey = survey_now bytes before in
      survey_beside image av b.surveyed survey (survey_blank image b.surveyed survey av is.blank) p n
      (subst (λ (two : Holders). AreHolders s (blocks_of s bytes) av b.surveyed (Some two)) (sym same) (is.holders.held bytes before))
      (taken bytes holds)

  -- the eraseblocks that weren't taken
  module _ (now : Agreed) (narrows : Narrows agrees now) (size at : ℕ) (agreed : Agreed) (sized : WhereHeld agreed (λ contents. length contents ≡ size))
      (inside : first_beyond size es ≡ None) (layings : List Laying)
      (laid : WhereHeld agreed (λ contents. layings ≡ all_layings s contents b.ready.parts.items)) where
    reaches : (contents : List ℕ) → agreed contents → AllByRecursion (λ v. v.start + v.len ≤ length contents) (news_of es)
    reaches contents held = subst (λ n. AllByRecursion (λ v. v.start + v.len ≤ n) (news_of es)) (sym (sized contents held)) (none_beyond size es inside)

    pub sites_are : (e : UpdateError) → IsSitesError s k now av b.surveyed (length layings + 2) e → IsUpdateError s k now size at agreed av es e
    sites_are (error.Read p) h = (is.survey.scan.whole, h)
    sites_are (error.Refused refusal.Memory) h = tt
    sites_are (error.Refused refusal.Exhausted) h = (
      is.survey.scan.whole,
      λ bytes holds contents held.
          (let image = image_of s bytes in
          let survey = survey_now bytes (narrows bytes holds) in
          make.exhausted_is image av b.surveyed survey contents (touchable av b.surveyed.states) es is.wholes
          (is.read bytes (narrows bytes holds) survey) (Some b.ready.holders) b.ready is.ready (reaches contents held) layings (laid contents held)
          (is.holders.held bytes (narrows bytes holds)) (survey_blank image b.surveyed survey av is.blank) refl h),
    )
    sites_are (error.Refused (refusal.NoFree n m)) h = (
      is.survey.scan.whole,
      λ bytes holds contents held.
          (let image = image_of s bytes in
          let survey = survey_now bytes (narrows bytes holds) in
          subst (λ n. IsUpdateCause image av contents es (refusal.NoFree n m)) (sym h.1)
          (make.free_is image av b.surveyed survey contents (touchable av b.surveyed.states) es is.wholes
          (is.read bytes (narrows bytes holds) survey) (Some b.ready.holders) b.ready is.ready (reaches contents held) layings (laid contents held)
          (is.holders.held bytes (narrows bytes holds)) (survey_blank image b.surveyed survey av is.blank) refl h.0 m h.2 (h.3 bytes holds))),
    )
    sites_are (error.Refused (refusal.Attach x)) h = absurd h
    sites_are (error.Refused (refusal.Edit i f)) h = absurd h
    sites_are (error.Refused (refusal.SameName i j)) h = absurd h
    sites_are (error.Refused (refusal.NoSlot i j)) h = absurd h
    sites_are (error.Refused (refusal.NoSpace i j)) h = absurd h
    sites_are (error.Refused (refusal.Autoresize i j)) h = absurd h
    sites_are (error.Refused refusal.NeedsRepair) h = absurd h
    sites_are (error.Refused (refusal.WeakCheck n)) h = absurd h
    sites_are (error.NotBlank p) h = absurd h
    sites_are (error.Beyond i) h = absurd h
    sites_are (error.Contents id) h = absurd h
