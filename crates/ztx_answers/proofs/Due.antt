-- To each request one answer is due, for every input.
use Rattle.std.proofs.Common.{◌≢◌, ℕ, List, refl}
use Rattle.ztx_answers.specs.declared.requests.Request.{Request}
use Rattle.ztx_answers.specs.declared.requests.Request.TheVariants as request
use Rattle.ztx_answers.specs.Requests.{IsAllowed, IsDue}
use Rattle.ztx_answers.specs.One.{IsOnly, IsSome}
use Rattle.ztx_answers.proofs.Answered.{listed, one_list, reported, one_report}
use Rattle.ztx_answers.proofs.Decked.{one_read, one_written, read, written}
use Rattle.ztx_answers.proofs.OneCheck.{HasOneAnswer, one_check}
use Rattle.ztx_answers.proofs.OneHeat.{one_heat, some_heat}
use Rattle.ztx_answers.proofs.OneStep.{one_step, some_step}

-- something is due
pub some_due : (r : Request) (input : List ℕ) → IsAllowed r → r ≢ request.Check → IsSome (IsDue r input)
some_due request.List input allowed other = listed input
some_due (request.Run turns tick seed) input allowed other = reported turns tick seed input allowed
some_due request.Deck input allowed other = written input
some_due (request.ReadDeck origin) input allowed other = read origin input
some_due (request.Step turns tick seed) input allowed other = some_step turns tick seed input
some_due (request.Heat turns tick seed) input allowed other = some_heat turns tick seed input
some_due request.Check input allowed other = absurd (other refl)

-- only one thing is
pub one_due : HasOneAnswer → (r : Request) (input : List ℕ) → IsOnly (IsDue r input)
one_due once request.List input = one_list input
one_due once (request.Run turns tick seed) input = one_report turns tick seed input
one_due once request.Deck input = one_written input
one_due once (request.ReadDeck origin) input = one_read origin input
one_due once (request.Step turns tick seed) input = one_step turns tick seed input
one_due once (request.Heat turns tick seed) input = one_heat turns tick seed input
one_due once request.Check input = one_check once input
