-- Where no transaction is open no test ends one, and where one is open no exception stops the program.
use Rattle.std.proofs.Common.{◌≡◌, ◌≢◌, ℕ, Bool, true, false, List, [], ◌∷◌, Option, Some, None, refl, sym}
use Rattle.std.proofs.Common.{ap}
use Rattle.std.proofs.Common.{subst, ◌∙◌}
use Rattle.std.specs.Prelude.{◌&&◌}
use Rattle.z_regs.specs.declared.ranges.Range.{Range}
use Rattle.z_instr.specs.declared.instr.Instr.{Instr}
use Rattle.z_instr.specs.Access.{accessible_pages, text_pages}
use Rattle.z_instr.specs.Operands.{unspecified, inaccessible}
use Rattle.z_instr.specs.Roles.{begins}
use Rattle.z_instr.specs.Table.{entry_at}
use Rattle.tx_serial.specs.Refusals.{at_fetch}
use Rattle.tx_control.specs.declared.begins.Begin.{Begin}
use Rattle.tx_control.specs.declared.causes.Why.{Why}
use Rattle.tx_control.specs.declared.causes.Why.TheVariants.{Depth}
use Rattle.tx_control.specs.declared.exceptions.Exception.{Exception}
use Rattle.tx_serial.specs.Attempt.{Run}
use Rattle.tx_serial.specs.Fate.{Goes, Ends, Stops, Refusal, Excepts, Because, fate, fate_by}
use Rattle.tx_serial.specs.Fate.{fate_by_tests, fate_after, first_refusal, excepted, aborts_where, tests}
use Rattle.tx_serial.specs.Fate.{operands, specified_refusal, depth_refusal, operand_refusal, unreadable}
use Rattle.tx_serial.specs.Fate.{fetch_refusal, instruction_at}
use Rattle.tx_serial.specs.Flat.{FlatState}
use Rattle.tx_serial.specs.Run.{run}
use Rattle.tx_progress.specs.Local.{Local}
use Rattle.tx_progress.specs.Progress.{is_live}
use Rattle.tx_progress.specs.Reached.{IsFollowed}
use Rattle.tx_progress.specs.Trial.{fate_by_progress}
use Rattle.tx_progress.proofs.Parts.{rests, followed_fate}
use Rattle.tx_progress.proofs.Facts.{live_nest}
use Rattle.std.proofs.lemmas.Bool.{false_from_ne_true, true_from_ne_false}
use Rattle.tx_progress.proofs.Endings.{its_nest}

-- ---- who may be ended, and who may be stopped

no_goes : {A : Type 0} (i : Instr) (ranges : List Range) (why : Why) → Goes i ranges ≡ Ends why → A
no_goes i ranges why h = absurd (cc)

no_stops : {A : Type 0} (e : Exception) (why : Why) → Stops e ≡ Ends why → A
no_stops e why h = absurd (cc)

-- tests of a program outside transactions find exceptions alone
abbrev Excepting : Option Refusal → Type 0
Excepting None = Unit {0}
Excepting (Some (Excepts e)) = Unit {0}
Excepting (Some (Because why)) = ⊥

first_excepting : (o : Option Refusal) (rest : List (Option Refusal)) → Excepting o
    → Excepting (first_refusal rest) → Excepting (first_refusal (o ∷ rest))
first_excepting None rest h more = more
first_excepting (Some r) rest h more = h

excepted_so : (i : Instr) (o : Option ℕ) → Excepting (excepted i o)
excepted_so i None = tt
excepted_so i (Some code) = tt

no_depth : (b : Bool) → Excepting (aborts_where (b && false) Depth)
no_depth true = tt
no_depth false = tt

no_cause : (i : Instr) (p : Run) (o : Option Refusal) (why : Why) → p.nest ≡ [] → Excepting o
    → fate_by_tests p i o ≡ Ends why → ⊥
no_cause i p None why e x h = no_goes i (operands i p.cpu) why h
no_cause i p (Some (Excepts d)) why e x h = no_stops d why (sym (ap (λ n. fate_after n (Excepts d)) e) ∙ h)
no_cause i p (Some (Because w)) why e x h = x

three_excepting : (a b c : Option Refusal) → Excepting a → Excepting b → Excepting c
    → Excepting (first_refusal (a ∷ b ∷ c ∷ None ∷ None ∷ []))
three_excepting a b c x y z =
    first_excepting a (b ∷ c ∷ None ∷ None ∷ []) x
    (first_excepting b (c ∷ None ∷ None ∷ []) y (first_excepting c (None ∷ None ∷ []) z tt))

outside_tests : (text : List ℕ) (p : Run) (i : Instr) → p.nest ≡ []
    → Excepting (first_refusal (tests text p i))
outside_tests text p i e =
    subst (λ (r : Run). Excepting (first_refusal (tests text r i))) (λ k. record p { nest = sym e k })
    (quiet_tests text p i)
  where
    quiet_tests : (text : List ℕ) (p : Run) (i : Instr)
        → Excepting (first_refusal (tests text (record p { nest = [] }) i))
    quiet_tests text p i =
        let q : Run = record p { nest = [] } in
        three_excepting (specified_refusal q i) (depth_refusal q i) (operand_refusal text q i)
        (excepted_so i (unspecified i p.cpu.general 0)) (no_depth (begins (entry_at i.op.number)))
        (excepted_so i (inaccessible i p.cpu.general p.cpu.condition 0 (accessible_pages p.cpu.prefix)
        (text_pages p.cpu.prefix text)))

-- no attempt is ended outside transactions
never_ends : (text : List ℕ) (p : Run) (why : Why) → p.nest ≡ [] → fate text p ≡ Ends why → ⊥
unfolding fate
never_ends text p why e h = by (fetch_refusal text p) (instruction_at p) h
  where
    stops : (d : Exception) → fate_after p.nest (Excepts d) ≡ Ends why → ⊥
    stops d g = no_stops d why (sym (ap (λ n. fate_after n (Excepts d)) e) ∙ g)

    by : (u : Option ℕ) (o : Option Instr) → fate_by text p u o ≡ Ends why → ⊥
    by (Some code) o g = stops (at_fetch code) g
    by None None g = stops (unreadable p) g
    by None (Some i) g = no_cause i p (first_refusal (tests text p i)) why e (outside_tests text p i e) g

-- no exception stops the program inside transactions
pub no_stop : (nest : List Begin) (r : Refusal) (e : Exception) → nest ≢ [] → fate_after nest r ≡ Stops e → ⊥
no_stop [] r e some h = some refl
no_stop (b ∷ bs) (Excepts d) e some h = no_stops e _ (sym h)
no_stop (b ∷ bs) (Because why) e some h = no_stops e why (sym h)

goes_on : {A : Type 0} (i : Instr) (ranges : List Range) (e : Exception) → Goes i ranges ≡ Stops e → A
goes_on i ranges e h = absurd (cc)

never_stops : (text : List ℕ) (p : Run) (e : Exception) → p.nest ≢ [] → fate text p ≡ Stops e → ⊥
unfolding fate
never_stops text p e some h = by (fetch_refusal text p) (instruction_at p) h
  where
    tried : (i : Instr) (o : Option Refusal) → fate_by_tests p i o ≡ Stops e → ⊥
    tried i None g = goes_on i (operands i p.cpu) e g
    tried i (Some r) g = no_stop p.nest r e some g

    by : (u : Option ℕ) (o : Option Instr) → fate_by text p u o ≡ Stops e → ⊥
    by (Some code) o g = no_stop p.nest (Excepts (at_fetch code)) e some g
    by None None g = no_stop p.nest (Excepts (unreadable p)) e some g
    by None (Some i) g = tried i (first_refusal (tests text p i)) g

-- ---- what is followed

pub ends_live : (f : FlatState) (i : ℕ) (local : Local) (why : Why) → IsFollowed f i local
    → fate_by_progress f.text f.storage local.attempt ≡ Ends why → is_live local.attempt ≡ true
ends_live f i local why is h =
    let p = run f i local.attempt.count in
    true_from_ne_false (is_live local.attempt) (λ quiet. never_ends f.text p why
    (its_nest p local.attempt is.attempt ∙ ap (λ q. q.nest) (rests f i local is quiet))
    (followed_fate f i local is ∙ h))

pub stops_quiet : (f : FlatState) (i : ℕ) (local : Local) (e : Exception) → IsFollowed f i local
    → fate_by_progress f.text f.storage local.attempt ≡ Stops e → is_live local.attempt ≡ false
stops_quiet f i local e is h =
    let p = run f i local.attempt.count in
    false_from_ne_true (is_live local.attempt) (λ live. never_stops f.text p e
    (λ none. live_nest f i local is live (sym (its_nest p local.attempt is.attempt) ∙ none))
    (followed_fate f i local is ∙ h))
