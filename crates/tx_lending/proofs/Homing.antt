-- Turns that were made away from a machine are turns of it, where it has the same bytes where they have looked.
use Rattle.std.proofs.Common.{◌≡◌, ℕ, suc, ◌<◌, List, ◌++◌, sym, ap, ◌∙◌}
use Rattle.std.proofs.Common.{replicate}
use Rattle.std.proofs.lemmas.List.Elements.{All-append, All-replicate}
use Rattle.tx_journal.specs.Image.{cpu_of_event}
use Rattle.tx_journal.specs.declared.events.Event.{Event}
use Rattle.tx_journal.specs.declared.events.Event.TheVariants.{Turn}
use Rattle.tx_serial.specs.Flat.{Storage}
use Rattle.line_table.specs.declared.table.Mode.{Mode}
use Rattle.tx_progress.specs.Local.{Beside}
use Rattle.tx_progress.specs.Progress.{Progress}
use Rattle.tx_progress.proofs.Parts.{rests}
use Rattle.tx_meaning.specs.declared.outcome.Outcome.TheVariants as outcome
use Rattle.tx_meaning.specs.Limits.{Setting}
use Rattle.tx_meaning.specs.Meaning.{IsSetting, meaning}
use Rattle.tx_meaning.specs.State.{cpus_of}
use Rattle.tx_meaning.specs.Turn.{happen, turned}
use Rattle.tx_meaning.specs.Views.{AreKnown}
use Rattle.tx_keeping.specs.Keeping.{keeping, keeping_from}
use Rattle.tx_keeping.specs.Kept.{Kept, kept_beginning, kept_flat, text_of, beside}
use Rattle.tx_keeping.specs.Told.{turned_of}
use Rattle.tx_keeping.specs.Turn.{k_happen}
use Rattle.tx_keeping.proofs.Events.{keeping_is, happens_alike, keeping_good, in_parts}
use Rattle.tx_keeping.proofs.Truth.{true_to}
use Rattle.tx_lending.specs.Away.{IsClear, GoAway, ran}
use Rattle.tx_lending.specs.Home.{MayComeHome, brought_home}
use Rattle.tx_lending.specs.Turns.{MayMake, with_turns}
use Rattle.tx_lending.proofs.Along.{makes, go_too}
use Rattle.tx_lending.proofs.Strangers.{stranger_makes, stranger_goes}
use Rattle.tx_lending.proofs.Turning.{turns_kept, turns_each}
use Rattle.tx_lending.specs.Home.{brought, MayBeTaken, taken, with_taken, IsNow}
use Rattle.std.proofs.Common.{Option}

-- Turns of the machine behind all events, which leave this of their CPU and of storage.
module _ (m : Setting) (setting : IsSetting m) (events : List Event) (known : AreKnown m events) (i k : ℕ)
    (within : i < cpus_of m) (needed : ℕ → Option Mode) (may : MayMake m i k needed (keeping m events))
    (there : GoAway (text_of m) needed k (beside (keeping m events) i)) (left : Beside)
    (made : ran (text_of m) k (beside (keeping m events) i) ≡ left)
  where
    abbrev t : Kept
    t = keeping m events

    more : (j : ℕ) → keeping m (events ++ replicate j (Turn i)) ≡ keeping_from m (replicate j (Turn i)) t
    more j = in_parts m events (replicate j (Turn i)) (kept_beginning m)

    now_kept : keeping m (events ++ replicate k (Turn i)) ≡ with_turns i k left t
    now_kept = more k ∙ turns_kept m i k needed t may there ∙ ap (λ b. with_turns i k b t) made

    all_known : (j : ℕ) → AreKnown m (events ++ replicate j (Turn i))
    all_known j =
        All-append (λ e. cpu_of_event e < cpus_of m) events (replicate j (Turn i)) known
        (All-replicate (λ e. cpu_of_event e < cpus_of m) j (Turn i) within)

    now_meant : meaning m (events ++ replicate k (Turn i)) ≡ (with_turns i k left t).state
    now_meant =
        keeping_is m setting (events ++ replicate k (Turn i)) (all_known k) ∙ ap (λ (x : Kept). x.state) now_kept

    now_each : (j : ℕ) → j < k → happen m (Turn i) (meaning m (events ++ replicate j (Turn i)))
        ≡ turned (meaning m (events ++ replicate (suc j) (Turn i))) outcome.Executed
    now_each j less =
        happens_alike m setting (events ++ replicate j (Turn i)) (Turn i) (all_known j) within
        ∙ ap (λ x. turned_of (k_happen m (Turn i) x)) (more j)
        ∙ ap turned_of (turns_each m i k needed t may there j less)
        ∙ ap (λ (x : Kept). turned x.state outcome.Executed) (sym (more (suc j)))
        ∙ ap (λ s. turned s outcome.Executed)
        (sym (keeping_is m setting (events ++ replicate (suc j) (Turn i)) (all_known (suc j))))

    pub now_so : IsNow m events i k (with_turns i k left t)
    now_so = record { kept = now_kept; meant = now_meant; each = now_each }

-- outside transactions no store of a CPU waits
clear : (m : Setting) → IsSetting m → (events : List Event) → AreKnown m events → (i : ℕ)
    → IsClear ((keeping m events).locals i).attempt
clear m setting events known i none a =
    let t = keeping m events in
    let is = true_to m t (keeping_good m setting events known).truth in
    ap (λ (q : Progress). q.overlay a) (rests (kept_flat m t) i (t.locals i) (is.followed i) none)

pub comes_home : (m : Setting) → IsSetting m → (events : List Event) → AreKnown m events → (i k : ℕ)
    → i < cpus_of m → (own : Storage) → MayComeHome m i k own (keeping m events)
    → IsNow m events i k (brought_home m i k own (keeping m events))
comes_home m setting events known i k within own home =
    let t = keeping m events in
    let rests = clear m setting events known i in
    now_so m setting events known i k within home.needed home.may
    (go_too (text_of m) home.needed k (t.locals i) own t.storage rests home.away home.alike) (brought m i k own t)
    (makes (text_of m) home.needed k (t.locals i) own t.storage rests home.away home.alike)

pub is_taken : (m : Setting) → IsSetting m → (events : List Event) → AreKnown m events → (i k : ℕ)
    → i < cpus_of m → (from : Beside) → MayBeTaken m i k from (keeping m events)
    → IsNow m events i k (with_taken m i k from (keeping m events))
is_taken m setting events known i k within from home =
    let t = keeping m events in
    let own = t.locals i in
    now_so m setting events known i k within home.needed home.may
    (stranger_goes (text_of m) home.needed from.local own from.storage t.storage home.like home.live k home.away
    home.alike) (taken m i k from t)
    (stranger_makes (text_of m) home.needed from.local own from.storage t.storage home.like home.live k home.away
    home.alike)
