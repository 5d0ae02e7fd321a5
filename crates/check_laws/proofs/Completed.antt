-- A live attempt has completed no more instructions than a CPU may have turns: an interruption from outside
-- would
-- write that into the history.
use Rattle.std.proofs.Common.{◌≡◌, ◌∙◌, ap, sym, subst, ℕ, ◌<◌, ◌≤◌, Bool, true}
use Rattle.std.proofs.Common.{List, [], ◌∷◌, ◌++◌}
use Rattle.std.specs.Prelude.{All}
use Rattle.std.proofs.lemmas.List.Elements.{All-push, All-head, All-tail}
use Rattle.tx_control.specs.declared.causes.Why.TheVariants as why
use Rattle.tx_journal.specs.Image.{cpu_of_event}
use Rattle.tx_journal.specs.declared.entries.Entry.{Entry}
use Rattle.tx_journal.specs.declared.entries.Entry.TheVariants.{Abort}
use Rattle.tx_journal.specs.declared.events.Event.{Event}
use Rattle.tx_journal.specs.declared.events.Event.TheVariants.{External}
use Rattle.tx_meaning.specs.Changes.{with_event}
use Rattle.tx_meaning.specs.Limits.{Setting}
use Rattle.tx_meaning.specs.Meaning.{IsSetting, meaning}
use Rattle.tx_meaning.specs.State.{State, cpus_of, is_live, standing_of}
use Rattle.tx_meaning.specs.Turn.{happen, interrupting}
use Rattle.tx_meaning.specs.Views.{AreKnown}
use Rattle.tx_bounds.proofs.News.{aborted_history}
use Rattle.tx_report.proofs.Most.{meaning_more}
use Rattle.sound_laws.specs.Parts.{HasAtMost}
use Rattle.sound_laws.proofs.Turns.{took_turns}

-- the entry that an interruption from outside writes
outside_by : (m : Setting) (i : ℕ) (s : State) (b : Bool) → b ≡ true
    → (interrupting b m i s).state.history ≡ s.history ++ Abort i (s.numbers i).completed why.External ∷ []
outside_by m i s b is =
    subst (λ (c : Bool). (interrupting c m i s).state.history
    ≡ s.history ++ Abort i (s.numbers i).completed why.External ∷ []) (sym is)
    (aborted_history i (standing_of m s i) (s.numbers i).completed why.External s)

outside : (m : Setting) (i : ℕ) (s : State) → is_live s i ≡ true
    → (happen m (External i) s).state.history ≡ s.history ++ Abort i (s.numbers i).completed why.External ∷ []
unfolding happen
outside m i s live = outside_by m i (with_event (External i) s) (is_live s i) live

last_holds : (P : Entry → Type 0) (es : List Entry) (e : Entry) → All P (es ++ e ∷ []) → P e
last_holds P [] e all = All-head P e [] all
last_holds P (d ∷ es) e all = last_holds P es e (All-tail P d (es ++ e ∷ []) all)

pub few_completed : (m : Setting) → IsSetting m → (events : List Event) → AreKnown m events → (i : ℕ)
    → i < cpus_of m → is_live (meaning m events) i ≡ true
    → ((meaning m events).numbers i).completed ≤ m.limits.turns
few_completed m setting events known i below live =
    let s = meaning m events in
    let more = events ++ External i ∷ [] in
    let n = (s.numbers i).completed in
    let also : AreKnown m more = All-push (λ e. cpu_of_event e < cpus_of m) events (External i) known below in
    let history : (meaning m more).history ≡ s.history ++ Abort i n why.External ∷ [] =
    ap (λ (t : State). t.history) (meaning_more m events (External i)) ∙ outside m i s live in
    last_holds (HasAtMost m.limits.turns) s.history (Abort i n why.External)
    (subst (All (HasAtMost m.limits.turns)) history (took_turns m more setting also))
