-- The command `help` isn't among words that pass.
use Rattle.ubi_commands.proofs.Prelude.{◌≡◌, ◌&&◌, ◌∷◌, [], Bool, List, Some, cond, false, not, refl, true, ℕ, IfSome, codes, fold, is_some, bytes_eq, other_fault, step_fault, turn_fault, walk_fault, word_fault, or_else, long_of, short_of, Shape, Held, Names, Rule, Text, Waiting, Walk, after_flag, after_step, arg_by_index, arg_by_long, bundle, done, idle, long_met, long_or_other, option, plain, plain_word, positional, refused, short_or_plain, subcommand_met, subcommand_or_other, to_positional, waits, walked, walked_from, word_met, next, subcommand, trailing, value, DisplayHelp, InvalidSubcommand, None, Option, Step}
use Rattle.clap.specs.Walk.{Outcome}
use Rattle.ubi_commands.proofs.Uses.{or_none}

-- it isn't `help`
abbrev pub NoHelp : Option (Text × List Text) → Type 0
NoHelp o = IfSome o (λ p. bytes_eq p.0 (codes "help") ≡ false)

abbrev MeetsNoHelp : Step → Type 0
MeetsNoHelp (subcommand name) = bytes_eq name (codes "help") ≡ false
MeetsNoHelp _ = Unit {0}

plain_meets : (c : List Rule) (waiting : Waiting) (word : Text) (h : Held) → MeetsNoHelp (plain_word c waiting word h).1
plain_meets c idle word h = tt
plain_meets c (option id) word h = tt
plain_meets c positional word h = tt

flag_meets : (c : List Rule) (waiting : Waiting) (word : Text) (h : Held) (o : Outcome)
    → MeetsNoHelp (after_flag c waiting word h o).1
flag_meets c waiting word h done = tt
flag_meets c waiting word h (waits id) = tt
flag_meets c waiting word h plain = plain_meets c waiting word h
flag_meets c waiting word h refused = plain_meets c waiting word h

short_meets : (c : List Rule) (waiting : Waiting) (word : Text) (o : Option Text) (h : Held)
    → MeetsNoHelp (short_or_plain c waiting word o h).1
short_meets c waiting word None h = plain_meets c waiting word h
short_meets c waiting word (Some flags) h = flag_meets c waiting word (bundle c flags h).0 (bundle c flags h).1

long_meets : (c : List Rule) (waiting : Waiting) (word : Text) (o : Option (Text × Option Text)) (h : Held)
    → MeetsNoHelp (long_or_other c waiting word o h).1
long_meets c waiting word None h = short_meets c waiting word (short_of word) h
long_meets c waiting word (Some p) h =
    flag_meets c waiting word (long_met c (arg_by_long c p.0) p.1 h).0 (long_met c (arg_by_long c p.0) p.1 h).1

module _ (s : Shape) (has_help : s.disable_help_subcommand ≡ false) where
  other_meets : (o : Option Text) (waiting : Waiting) (position : ℕ) (word : Text) (h : Held)
      → other_fault s o word h ≡ [] → MeetsNoHelp (subcommand_or_other s.rules o waiting position word h).1
  other_meets (Some name) waiting position word h e = go (bytes_eq name (codes "help")) e
    where
      go : (b : Bool) → cond (b && not s.disable_help_subcommand) (DisplayHelp ∷ InvalidSubcommand ∷ []) [] ≡ [] → b ≡ false
      go true e =
          let bad = rw has_help at e in
          absurd (cc)
      go false e = refl
  other_meets None waiting position word h e = go (bytes_eq word (45 ∷ 45 ∷ []))
    where
      go : (b : Bool) → MeetsNoHelp (cond b (h, trailing position) (long_or_other s.rules waiting word (long_of word) h)).1
      go true = tt
      go false = long_meets s.rules waiting word (long_of word) h

  word_meets : (names : Names) (b : Bool) (waiting : Waiting) (position : ℕ) (word : Text) (h : Held)
      → word_fault s names b waiting word h ≡ [] → MeetsNoHelp (word_met s.rules names b waiting position word h).1
  word_meets names true waiting position word h e = tt
  word_meets names false waiting position word h e =
      other_meets (subcommand_met names waiting word) waiting position word h e

  placed_meets : (o : Option Rule) (word : Text) (w : Walk) (h : Held) → NoHelp w.stopped
      → NoHelp (to_positional s.rules o word w h).stopped
  placed_meets None word w h still = still
  placed_meets (Some a) word w h still = tt

  then_meets : (w : Walk) (word : Text) (h : Held) (step : Step) → MeetsNoHelp step → NoHelp w.stopped
      → NoHelp (after_step s.rules word w h step).stopped
  then_meets w word h (next waiting) is still = still
  then_meets w word h (trailing position) is still = still
  then_meets w word h (subcommand name) is still = is
  then_meets w word h value is still = placed_meets (arg_by_index s.rules w.position) word w h still

  turn_meets : (names : Names) (o : Option (Text × List Text)) (w : Walk) (word : Text)
      → cond (is_some o) [] (or_else (word_fault s names w.is_trailing w.waiting word w.held)
      (step_fault s w.position (word_met s.rules names w.is_trailing w.waiting w.position word w.held).0
      (word_met s.rules names w.is_trailing w.waiting w.position word w.held).1)) ≡ []
      → NoHelp o → NoHelp w.stopped → NoHelp (walked_from s.rules names o w word).stopped
  turn_meets names (Some p) w word e here still = here
  turn_meets names None w word e here still =
      let met = word_met s.rules names w.is_trailing w.waiting w.position word w.held in
      let two = or_none (word_fault s names w.is_trailing w.waiting word w.held) (step_fault s w.position met.0 met.1) e in
      then_meets w word met.0 met.1 (word_meets names w.is_trailing w.waiting w.position word w.held two.0) still

  pub walk_meets : (names : Names) (w : Walk) (words : List Text) → walk_fault s names w words ≡ [] → NoHelp w.stopped
      → NoHelp (fold (walked s.rules names) w words).stopped
  unfolding walk_fault walked
  walk_meets names w [] e still = still
  walk_meets names w (word ∷ rest) e still =
      let two = or_none (turn_fault s names w word) (walk_fault s names (walked s.rules names w word) rest) e in
      walk_meets names (walked s.rules names w word) rest two.1 (turn_meets names w.stopped w word two.0 still still)
