-- Causes of aborts that a line tells, and exceptions that fit.
use Rattle.std.proofs.Common.{◌≡◌, ℕ, ◌<◌, ◌≤◌, true, false, Option, Some, None}
use Rattle.std.proofs.Common.{refl, sym, ap, ◌∙◌, arith, length, get_or}
use Rattle.std.specs.Prelude.{is_none, ◌&&◌}
use Rattle.std.proofs.lemmas.Bool.{true≢false}
use Rattle.std.proofs.lemmas.Bool.Decides.{nat_tests}
use Rattle.std.proofs.Math.ListN.{get_or-eq_default}
use Rattle.tx_control.specs.Causes.{code_number}
use Rattle.tx_control.specs.declared.causes.Why.{Why}
use Rattle.tx_control.specs.declared.causes.Why.TheVariants.{External, Program, FetchConflict, StoreConflict}
use Rattle.tx_control.specs.declared.causes.Why.TheVariants.{FetchOverflow, StoreOverflow, Restricted}
use Rattle.tx_control.specs.declared.causes.Why.TheVariants.{Filtered, Depth, Starved, Tabort}
use Rattle.tx_journal.specs.declared.entries.Entry.TheVariants.{Abort}
use Rattle.tx_journal.specs.Lines.{says_exception}
use Rattle.tx_journal.specs.Sound.{IsCause}
use Rattle.tx_serial.specs.Apply.{may_act, is_running}
use Rattle.tx_serial.specs.Ending.{fits, ending, is_cause, is_open}
use Rattle.tx_serial.specs.Flat.{FlatState}
use Rattle.tx_serial.specs.History.{no_cpu}
use Rattle.tx_serial.specs.Run.{run}
use Rattle.tx_serial.proofs.SameCauses.{same_cause}
use Rattle.tx_flat.specs.Machine.{Parts, SlotParts, state_of, fresh}
use Rattle.tx_flat.proofs.Aborted.{may_not_abort}
use Rattle.history_laws.specs.Fitting.{Fits}
use Rattle.history_laws.proofs.Fitting.{cause_fits, ends_so}
use Rattle.tx_replay.specs.Told.{Tells, is_exception}
use Rattle.std.proofs.lemmas.Option.{none-some}

-- ---- causes by their numbers

above : (code : ℕ) → 255 < code → says_exception code ≡ false
above code h = grind (arith, nat_tests, h)

-- the code tells whether the cause is an exception
exception_said : (why : Why) → IsCause why → says_exception (code_number why) ≡ is_exception why
exception_said External h = refl
exception_said (Program e) h = refl
exception_said (FetchConflict line) h = refl
exception_said (StoreConflict line) h = refl
exception_said FetchOverflow h = refl
exception_said StoreOverflow h = refl
exception_said Restricted h = refl
exception_said (Filtered e) h = refl
exception_said Depth h = refl
exception_said Starved h = refl
exception_said (Tabort code) h = above code h.0

pub said : (why : Why) (code detail : ℕ) → IsCause why → Tells why code detail
    → is_exception why ≡ says_exception code
said why code detail sound is = sym (exception_said why sound) ∙ ap says_exception is.code_is

-- ---- exceptions that fit

is_it : (o : Option Why) (why : Why) → is_cause o why ≡ true → o ≡ Some why
is_it None why h = absurd (true≢false (sym h))
is_it (Some cause) why h = ap Some (same_cause cause why h)

-- the attempt ends by it, by itself
pub own_exception : (f : FlatState) (i n : ℕ) (why : Why) → is_exception why ≡ true → Fits f (Abort i n why)
    → ending f.text (run f i n) ≡ Some why
unfolding fits
own_exception f i n (Program e) is h =
    is_it (ending f.text (run f i n)) (Program e)
    (ends_so _ (is_open (run f i n).mark) (cause_fits f i n (Program e) h))
own_exception f i n (Filtered e) is h =
    is_it (ending f.text (run f i n)) (Filtered e)
    (ends_so _ (is_open (run f i n).mark) (cause_fits f i n (Filtered e) h))
own_exception f i n External is h = absurd (true≢false (sym is))
own_exception f i n (FetchConflict line) is h = absurd (true≢false (sym is))
own_exception f i n (StoreConflict line) is h = absurd (true≢false (sym is))
own_exception f i n FetchOverflow is h = absurd (true≢false (sym is))
own_exception f i n StoreOverflow is h = absurd (true≢false (sym is))
own_exception f i n Restricted is h = absurd (true≢false (sym is))
own_exception f i n Depth is h = absurd (true≢false (sym is))
own_exception f i n Starved is h = absurd (true≢false (sym is))
own_exception f i n (Tabort code) is h = absurd (true≢false (sym is))

-- no abort fits of a CPU that is not there
pub absent : (m : Parts) (i n : ℕ) (why : Why) → length m.slots ≤ i → Fits (state_of m) (Abort i n why) → ⊥
absent m i n why past h =
    let missing : get_or m.slots i (fresh no_cpu) ≡ fresh no_cpu =
    get_or-eq_default m.slots (fresh no_cpu) past in
    let still : may_act (state_of m) i ≡ false =
    ap (λ (s : SlotParts). is_running s.cpu.state && is_none s.pending) missing in
    none-some h.0 (sym (may_not_abort (state_of m) i n why still) ∙ h.1)
