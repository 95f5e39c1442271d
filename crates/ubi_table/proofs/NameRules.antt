-- A record with another name breaks no rule, if the bytes are a name.
use Rattle.ubi_table.proofs.Prelude.{◌≡◌, ℕ, true, false, not, List, refl, ap, lit<, arith, None, nat_tests, Sizes, is_name, breaks, fields_from, first_fault, rec_fault, VolumeRecord, IsName, name_facts, padded_begins, padded_ends, kept, with_name}
use Rattle.ubi_media.specs.declared.record.RecFault.TheVariants as fault

module _ (s : Sizes) (r : VolumeRecord) (name : List ℕ) (is : is_name name ≡ true) where
  pub sound_named : rec_fault s r ≡ None → rec_fault s (with_name r name) ≡ None
  unfolding first_fault
  sound_named sound =
      let old = fields_from s r in
      let new = fields_from s (with_name r name) in
      let named : IsName name = name_facts name is in
      let empty : breaks s new fault.NotEmpty ≡ false = unfold breaks fields_from in kept s old sound 0 (lit< tt) in
      let negative : breaks s new fault.Negative ≡ false = unfold breaks fields_from in kept s old sound 1 (lit< tt) in
      let aligned : breaks s new fault.Alignment ≡ false = unfold breaks fields_from in kept s old sound 2 (lit< tt) in
      let paged : breaks s new fault.AlignmentPage ≡ false = unfold breaks fields_from in kept s old sound 3 (lit< tt) in
      let pad : breaks s new fault.DataPad ≡ false = unfold breaks fields_from in kept s old sound 4 (lit< tt) in
      let kind : breaks s new fault.Kind ≡ false = unfold breaks fields_from in kept s old sound 5 (lit< tt) in
      let marker : breaks s new fault.Marker ≡ false = unfold breaks fields_from in kept s old sound 6 (lit< tt) in
      let long : breaks s new fault.NameTooLong ≡ false = unfold breaks fields_from in
      (let h = named.to in grind (arith, nat_tests)) in
      let begins : breaks s new fault.NameBlank ≡ false = unfold breaks fields_from in padded_begins name named in
      let ends : breaks s new fault.NameLength ≡ false = unfold breaks fields_from in ap not (padded_ends name named) in
      rw (empty, negative, aligned, paged, pad, kind, marker, long, begins, ends) refl
