-- What a walk over words that pass leaves of them.
use Rattle.ubi_commands.proofs.Prelude.{◌≡◌, ◌&&◌, ◌∷◌, [], Bool, List, Some, cond, false, length, suc, true, zero, ℕ, IfSome, fold, is_some, slice_get, list_all, option_map_or, bytes_eq, chars, bundle_fault, bundle_step_fault, flag_word_fault, flags_fault, long_fault, option_fault, other_fault, react_fault, settle_fault, positional_fault, short_fault, step_fault, turn_fault, use_fault, walk_fault, word_fault, Kinds, or_else, long_of, short_of, Shape, Held, Names, Row, Rule, Text, Waiting, Walk, after_flag, after_step, arg_by_id, arg_by_index, arg_by_long, arg_by_short, attached_value, bundle, bundle_met, bundle_step, done, flag_met, idle, is_pending, long_met, long_or_other, option, option_met, option_word, plain, plain_word, positional, pushed, reacted, refused, settled, settled_rows, short_met, short_or_plain, subcommand_met, subcommand_or_other, takes_several, takes_values, to_positional, waits, walked, walked_from, word_met, next, subcommand, trailing, value, TooManyValues, None, Option, Step}
use Rattle.clap.specs.Walk.{Outcome}
use Rattle.ubi_commands.proofs.Uses.{EachRow, found_takes, or_none, takes_one, use_found, use_given}

-- a word that is no flag changes no row
value_kept : (o : Option Rule) (id word : Text) (h : Held) → EachRow h.rows → EachRow (option_word o id word h).0.rows
value_kept None id word h each = each
value_kept (Some a) id word h each = each

plain_kept : (c : List Rule) (waiting : Waiting) (word : Text) (h : Held) → EachRow h.rows
    → EachRow (plain_word c waiting word h).0.rows
plain_kept c idle word h each = each
plain_kept c (option id) word h each = value_kept (arg_by_id c id) id word h each
plain_kept c positional word h each = each

flag_kept : (c : List Rule) (waiting : Waiting) (word : Text) (h : Held) (o : Outcome) → EachRow h.rows
    → EachRow (after_flag c waiting word h o).0.rows
flag_kept c waiting word h done each = each
flag_kept c waiting word h (waits id) each = each
flag_kept c waiting word h plain each = plain_kept c waiting word h each
flag_kept c waiting word h refused each = plain_kept c waiting word h each

module _ (c : List Rule) (again : Bool) (once : again ≡ false) (ok : list_all takes_one c ≡ true) where
  pending_used : (p : Option (Text × List Text)) (rows : List Row)
      → option_map_or (λ p. option_map_or (λ a. use_fault again a p.1 rows) (arg_by_id c p.0) []) p [] ≡ []
      → EachRow rows → EachRow (settled_rows c p rows)
  pending_used None rows e each = each
  pending_used (Some p) rows e each = use_found again (arg_by_id c p.0) p.1 rows once (found_takes _ c ok) e each

  pub settled_given : (h : Held) → settle_fault c again h ≡ [] → EachRow h.rows → EachRow (settled c h).rows
  settled_given h e each = pending_used h.pending h.rows e each

  used_next : (a : Rule) (values : List Text) (h : Held) → takes_one a ≡ true → react_fault c again a values h ≡ []
      → EachRow h.rows → EachRow (reacted c a values h).rows
  used_next a values h takes e each =
      let two = or_none (settle_fault c again h) (use_fault again a values (settled c h).rows) e in
      use_given again a values (settled c h).rows once takes two.1 (settled_given h two.0 each)

  option_used : (a : Rule) (v : Option Text) (h : Held) → takes_one a ≡ true → option_fault c again a v h ≡ []
      → EachRow h.rows → EachRow (option_met c a v h).0.rows
  option_used a None h takes e each = settled_given h e each
  option_used a (Some v) h takes e each = used_next a (v ∷ []) h takes e each

  flag_used : (a : Rule) (v : Option Text) (h : Held) → takes_one a ≡ true
      → cond (is_some v) (TooManyValues ∷ []) (react_fault c again a [] h) ≡ [] → EachRow h.rows
      → EachRow (flag_met c a v h).0.rows
  flag_used a (Some v) h takes e each = each
  flag_used a None h takes e each = used_next a [] h takes e each

  long_used : (o : Option Rule) (v : Option Text) (h : Held) → IfSome o (λ a. takes_one a ≡ true)
      → long_fault c again o v h ≡ [] → EachRow h.rows → EachRow (long_met c o v h).0.rows
  long_used None v h takes e each = each
  long_used (Some a) v h takes e each = go (takes_values a) e
    where
      go : (b : Bool)
          → cond b (option_fault c again a v h) (cond (is_some v) (TooManyValues ∷ []) (react_fault c again a [] h)) ≡ []
          → EachRow (cond b (option_met c a v h) (flag_met c a v h)).0.rows
      go true e = option_used a v h takes e each
      go false e = flag_used a v h takes e each

  short_used : (o : Option Rule) (rest : Text) (h : Held) (fault : Held → Kinds) (met : Held → Held × Outcome)
      → IfSome o (λ a. takes_one a ≡ true)
      → ((now : Held) → fault now ≡ [] → EachRow now.rows → EachRow (met now).0.rows)
      → short_fault c again o rest h fault ≡ [] → EachRow h.rows → EachRow (short_met c o rest h met).0.rows
  short_used None rest h fault met takes more e each = each
  short_used (Some a) rest h fault met takes more e each = go (takes_values a) e
    where
      flag : or_else (react_fault c again a [] h) (fault (reacted c a [] h)) ≡ [] → EachRow (met (reacted c a [] h)).0.rows
      flag e =
          let two = or_none (react_fault c again a [] h) (fault (reacted c a [] h)) e in
          more (reacted c a [] h) two.1 (used_next a [] h takes two.0 each)

      go : (b : Bool)
          → cond b (option_fault c again a (attached_value rest) h)
          (or_else (react_fault c again a [] h) (fault (reacted c a [] h))) ≡ []
          → EachRow (cond b (option_met c a (attached_value rest) h) (met (reacted c a [] h))).0.rows
      go true e = option_used a (attached_value rest) h takes e each
      go false e = flag e

  step_used : (o : Option ℕ) (flags : Text) (skip : ℕ) (so_far : Outcome) (h : Held)
      (fault : Text → ℕ → Held → Kinds) (met : Text → ℕ → Outcome → Held → Held × Outcome)
      → ((t : Text) (n : ℕ) (x : Outcome) (now : Held) → fault t n now ≡ [] → EachRow now.rows
      → EachRow (met t n x now).0.rows)
      → bundle_step_fault c again o flags skip h fault ≡ [] → EachRow h.rows
      → EachRow (bundle_step c o flags skip so_far h met).0.rows
  step_used None flags skip so_far h fault met more e each = each
  step_used (Some x) flags zero so_far h fault met more e each =
      short_used (arg_by_short c x) _ h (fault _ 0) (met _ 0 done) (found_takes _ c ok)
      (λ now none held. more _ 0 done now none held) e each
  step_used (Some x) flags (suc skip) so_far h fault met more e each = more _ skip so_far h e each

  flags_used : (k : ℕ) (flags : Text) (skip : ℕ) (so_far : Outcome) (h : Held) → flags_fault c again k flags skip h ≡ []
      → EachRow h.rows → EachRow (bundle_met c k flags skip so_far h).0.rows
  unfolding flags_fault bundle_met
  flags_used zero flags skip so_far h e each = each
  flags_used (suc k) flags skip so_far h e each =
      step_used (slice_get (chars flags) 0) flags skip so_far h (flags_fault c again k) (bundle_met c k)
      (λ t n x now none held. flags_used k t n x now none held) e each

  short_word_used : (waiting : Waiting) (word : Text) (o : Option Text) (h : Held)
      → option_map_or (λ flags. bundle_fault c again flags h) o [] ≡ [] → EachRow h.rows
      → EachRow (short_or_plain c waiting word o h).0.rows
  short_word_used waiting word None h e each = plain_kept c waiting word h each
  short_word_used waiting word (Some flags) h e each =
      flag_kept c waiting word (bundle c flags h).0 (bundle c flags h).1
      (flags_used (length flags) flags h.skip plain (record h { skip = 0 }) e each)

  flag_word_used : (waiting : Waiting) (word : Text) (o : Option (Text × Option Text)) (h : Held)
      → flag_word_fault c again o word h ≡ [] → EachRow h.rows → EachRow (long_or_other c waiting word o h).0.rows
  flag_word_used waiting word None h e each = short_word_used waiting word (short_of word) h e each
  flag_word_used waiting word (Some p) h e each =
      flag_kept c waiting word (long_met c (arg_by_long c p.0) p.1 h).0 (long_met c (arg_by_long c p.0) p.1 h).1
      (long_used (arg_by_long c p.0) p.1 h (found_takes _ c ok) e each)

  positional_used : (o : Option Rule) (word : Text) (w : Walk) (h : Held) (stray : Kinds)
      → option_map_or (λ a. positional_fault c again a h) o stray ≡ [] → EachRow h.rows
      → EachRow (to_positional c o word w h).held.rows
  positional_used None word w h stray e each = each
  positional_used (Some a) word w h stray e each = go (is_pending a h.pending && takes_several a) e
    where
      go : (b : Bool) → cond b [] (settle_fault c again h) ≡ [] → EachRow (pushed a.id word (cond b h (settled c h))).rows
      go true e = each
      go false e = settled_given h e each

-- ---- of a command

module _ (s : Shape) (once : s.args_override_self ≡ false) (ok : list_all takes_one s.rules ≡ true) where
  other_used : (o : Option Text) (waiting : Waiting) (position : ℕ) (word : Text) (h : Held)
      → other_fault s o word h ≡ [] → EachRow h.rows
      → EachRow (subcommand_or_other s.rules o waiting position word h).0.rows
  other_used (Some name) waiting position word h e each = each
  other_used None waiting position word h e each = go (bytes_eq word (45 ∷ 45 ∷ [])) e
    where
      go : (b : Bool) → cond b [] (flag_word_fault s.rules s.args_override_self (long_of word) word h) ≡ []
          → EachRow (cond b (h, trailing position) (long_or_other s.rules waiting word (long_of word) h)).0.rows
      go true e = each
      go false e = flag_word_used s.rules s.args_override_self once ok waiting word (long_of word) h e each

  word_used : (names : Names) (b : Bool) (waiting : Waiting) (position : ℕ) (word : Text) (h : Held)
      → word_fault s names b waiting word h ≡ [] → EachRow h.rows
      → EachRow (word_met s.rules names b waiting position word h).0.rows
  word_used names true waiting position word h e each = each
  word_used names false waiting position word h e each =
      other_used (subcommand_met names waiting word) waiting position word h e each

  then_used : (w : Walk) (word : Text) (h : Held) (step : Step) → step_fault s w.position h step ≡ [] → EachRow h.rows
      → EachRow (after_step s.rules word w h step).held.rows
  then_used w word h (next waiting) e each = each
  then_used w word h (trailing position) e each = each
  then_used w word h (subcommand name) e each = each
  then_used w word h value e each =
      positional_used s.rules s.args_override_self once ok (arg_by_index s.rules w.position) word w h _ e each

  turn_used : (names : Names) (o : Option (Text × List Text)) (w : Walk) (word : Text)
      → cond (is_some o) [] (or_else (word_fault s names w.is_trailing w.waiting word w.held)
      (step_fault s w.position (word_met s.rules names w.is_trailing w.waiting w.position word w.held).0
      (word_met s.rules names w.is_trailing w.waiting w.position word w.held).1)) ≡ []
      → EachRow w.held.rows → EachRow (walked_from s.rules names o w word).held.rows
  turn_used names (Some p) w word e each = each
  turn_used names None w word e each =
      let met = word_met s.rules names w.is_trailing w.waiting w.position word w.held in
      let two = or_none (word_fault s names w.is_trailing w.waiting word w.held) (step_fault s w.position met.0 met.1) e in
      then_used w word met.0 met.1 two.1 (word_used names w.is_trailing w.waiting w.position word w.held two.0 each)

  pub walk_given : (names : Names) (w : Walk) (words : List Text) → walk_fault s names w words ≡ []
      → EachRow w.held.rows → EachRow (fold (walked s.rules names) w words).held.rows
  unfolding walk_fault walked
  walk_given names w [] e each = each
  walk_given names w (word ∷ rest) e each =
      let two = or_none (turn_fault s names w word) (walk_fault s names (walked s.rules names w word) rest) e in
      walk_given names (walked s.rules names w word) rest two.1 (turn_used names w.stopped w word two.0 each)
