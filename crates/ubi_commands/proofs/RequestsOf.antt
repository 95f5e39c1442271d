-- The answer to the words.
use Rattle.ubi_commands.proofs.Prelude.{◌≡◌, ◌∙◌, ◌↔◌, [], List, Some, ap, inl, inr, refl, subst, sym, true, true≢false, Err, IfOk, IfSome, IsErr, Ok, Result, AllocError, fault_of, is_simple_and_free, HasKind, IsAmong, App, HasMatchesOf, app_of, is_simple, subcommand_of, subcommand_rows_of, kind_of, Text, Command, Error, ArgMatches, Gives, says, IsOneOf, IsRequest, AllStay, Files, IsAllElse, IsAnswer, IsAnswerTo, wrong_words, Takes, tool, Request, Outcome, None, Option, answered}
use Rattle.clap.specs.declared.error.kind.ErrorKind.TheVariants as kind
use Rattle.ubi_commands.proofs.GivenKey.{request_means}
use Rattle.ubi_commands.proofs.WordsAreRequests.{taken_asked}

tool_is_simple : is_simple tool ≡ true
unfolding tool
tool_is_simple = refl

tool_is_free : is_simple_and_free tool ≡ true
unfolding tool
tool_is_free = refl

-- words that are refused, and not for want of memory, are taken by no command line
module _ (c : Command) (words : List Text) (is : app_of c ≡ tool) where
  free : is_simple_and_free (app_of c) ≡ true
  free = ap is_simple_and_free is ∙ tool_is_free

  pub refused : (d : Files) (e : Error) (r : Result Outcome AllocError)
      → (is_simple_and_free (app_of c) ≡ true → HasKind (fault_of (app_of c) words) e)
      → IfOk r (λ o. Gives o (says [] 2)) → (kind_of e ≡ kind.OutOfMemory) ↔ IsErr r → IfOk r (IsAnswer words d d)
  refused d e (Err x) fails gives memory = tt
  refused d e (Ok o) fails gives memory =
      wrong_words (λ takes. not_taken (subst (λ (a : App). HasKind (fault_of a words) e) is (fails free)) takes) gives (λ path. refl)
    where
      not_taken : HasKind (fault_of tool words) e → Takes words → ⊥
      not_taken (inl out) takes = true≢false (sym (memory.0 out))
      not_taken (inr among) takes = subst (λ kinds. IsAmong (kind_of e) kinds) takes.0 among

  -- matches that were read of them are a request, whose answer is given
  pub asked : (d e : Files) (m : ArgMatches) (request : Option Request) (r : Result Outcome AllocError)
      → HasMatchesOf (app_of c) words m → (is_simple_and_free (app_of c) ≡ true → fault_of (app_of c) words ≡ [])
      → IsOneOf (IsRequest (subcommand_rows_of m)) request
      → (request ≡ None → IfOk r (λ o. Gives o (says [] 2) × AllStay d e))
      → IfSome request (λ q. IfOk r (λ o. IsAnswerTo d e q o × IsAllElse q d e))
      → IfOk r (IsAnswer words d e)
  asked d e m request r matches passes = by_case request r
    where
      passed : fault_of tool words ≡ []
      passed = sym (ap (λ (a : App). fault_of a words) is) ∙ passes free

      read : subcommand_rows_of m ≡ subcommand_of tool words
      read = (matches (ap is_simple is ∙ tool_is_simple)).1 ∙ ap (λ (a : App). subcommand_of a words) is

      by_case : (request : Option Request) (r : Result Outcome AllocError)
          → IsOneOf (IsRequest (subcommand_rows_of m)) request
          → (request ≡ None → IfOk r (λ o. Gives o (says [] 2) × AllStay d e))
          → IfSome request (λ q. IfOk r (λ o. IsAnswerTo d e q o × IsAllElse q d e))
          → IfOk r (IsAnswer words d e)
      by_case None (Err x) none nothing some = tt
      by_case None (Ok o) none nothing some =
          wrong_words (λ takes.
          let asks = taken_asked words takes in
          none asks.0 (subst (λ named. IsRequest named asks.0) (sym read) asks.1))
          (nothing refl).0 (nothing refl).1
      by_case (Some q) (Err x) one nothing some = tt
      by_case (Some q) (Ok o) one nothing some =
          let here = subst (λ named. IsRequest named q) read one in
          answered q ((passed, request_means _ q here), here) some.0 some.1
