-- A turn of a CPU that has still to wait: it is idle, the CPU waits, or it is interrupted from outside.
use Rattle.std.proofs.Common.{◌≡◌, ◌≢◌, ℕ, Bool, true, false, Option, Some, None, List, [], ◌∷◌, ◌++◌, drop}
use Rattle.std.proofs.Common.{length, refl, sym, ap, ◌∙◌, arith}
use Rattle.std.specs.Prelude.{nat_lt}
use Rattle.std.specs.List.{flat_map}
use Rattle.std.proofs.lemmas.List.{drop-append-le}
use Rattle.std.proofs.Math.Seq.{drop-length}
use Rattle.tx_control.specs.declared.causes.Why.TheVariants as why
use Rattle.tx_journal.specs.declared.entries.Entry.{Entry}
use Rattle.tx_journal.specs.declared.entries.Entry.TheVariants as entry
use Rattle.tx_journal.specs.declared.events.Event.{Event}
use Rattle.tx_journal.specs.declared.events.Event.TheVariants as event
use Rattle.tx_journal.specs.Image.{cpu_of_event}
use Rattle.tx_serial.proofs.Entries.{at_put_same, at_put_other}
use Rattle.tx_meaning.specs.declared.outcome.Outcome.{Outcome}
use Rattle.tx_meaning.specs.Idle.{idle}
use Rattle.tx_meaning.specs.Limits.{Setting}
use Rattle.tx_meaning.specs.State.{Numbers, State, is_live}
use Rattle.tx_meaning.specs.Changes.{with_event, counting_turn, aborting}
use Rattle.tx_meaning.specs.Turn.{Turned, happen, turn, turn_where, by_rules, interrupting, is_tick}
use Rattle.tx_heat.specs.Conflicts.{aborts_by, rejects_by, conflicts_in, entries_in}
use Rattle.tx_heat.specs.Watched.{Waits}

-- ---- what such a turn leaves

module _ (m : Setting) (i : ℕ) (e : Event) (s : State) where
  -- no conflict is told of, other attempts are where they were, and the CPU's own is too, or is over
  pub record Rests (t : Turned) : Type 0 where
    pub none : flat_map (aborts_by m s e) (entries_in s t.state) ++ rejects_by m s e t.reject ≡ []
    pub others : (x : ℕ) → x ≢ i → (t.state.numbers x).completed ≡ (s.numbers x).completed
    pub own : is_live t.state i ≡ true → (t.state.numbers i).completed ≡ (s.numbers i).completed

  nothing_told : (history : List Entry) → history ≡ s.history
      → flat_map (aborts_by m s e) (drop (length s.history) history) ++ [] ≡ []
  nothing_told history same =
      ap (λ (es : List Entry). flat_map (aborts_by m s e) (drop (length s.history) es) ++ []) same
      ∙ ap (λ (es : List Entry). flat_map (aborts_by m s e) es ++ []) (drop-length s.history)

  outside_told : (history : List Entry) (n : ℕ) → history ≡ s.history ++ entry.Abort i n why.External ∷ []
      → flat_map (aborts_by m s e) (drop (length s.history) history) ++ [] ≡ []
  outside_told history n more =
      ap (λ (es : List Entry). flat_map (aborts_by m s e) (drop (length s.history) es) ++ []) more
      ∙ ap (λ (es : List Entry). flat_map (aborts_by m s e) es ++ [])
      (drop-append-le (length s.history) s.history (entry.Abort i n why.External ∷ []) (omega arith)
      ∙ ap (λ (es : List Entry). es ++ entry.Abort i n why.External ∷ []) (drop-length s.history))

  abbrev counted : State
  counted = with_event (event.Turn i) (counting_turn i s)

  own_counted : (counted.numbers i).completed ≡ (s.numbers i).completed
  own_counted = ap (λ (n : Numbers). n.completed) (at_put_same s.numbers i _)

  others_counted : (x : ℕ) → x ≢ i → (counted.numbers x).completed ≡ (s.numbers x).completed
  others_counted x ne = ap (λ (n : Numbers). n.completed) (at_put_other s.numbers i _ x ne)

  -- an interruption from outside
  interrupted : (live : Bool) → Rests (interrupting live m i counted)
  unfolding aborting
  interrupted true =
      let t = interrupting true m i counted in record {
        none = outside_told t.state.history _ refl;
        others = λ x ne.
            ap (λ (n : Numbers). n.completed) (at_put_other counted.numbers i _ x ne) ∙ others_counted x ne;
        own = λ live.
            let over : (t.state.numbers i).completed ≡ 0 =
            ap (λ (n : Numbers). n.completed) (at_put_same counted.numbers i _) in
            absurd (let x : true ≡ false = sym live ∙ ap (nat_lt 0) over in cc);
      }
  interrupted false = record {
    none = nothing_told counted.history refl;
    others = others_counted;
    own = λ live. own_counted;
  }

  ruled : (tick waits : Bool) → waits ≡ true → Rests (by_rules tick waits m i counted)
  ruled true waits is = interrupted (is_live counted i)
  ruled false true is = record {
    none = nothing_told counted.history refl;
    others = λ x ne.
        ap (λ (n : Numbers). n.completed) (at_put_other counted.numbers i _ x ne) ∙ others_counted x ne;
    own = λ live. ap (λ (n : Numbers). n.completed) (at_put_same counted.numbers i _) ∙ own_counted;
  }
  ruled false false is = absurd (let x : false ≡ true = is in cc)

  idle_or_waits : (o : Option Outcome) → nat_lt 0 (s.numbers i).delay ≡ true → Rests (turn_where o m i s)
  idle_or_waits (Some o) waits = record {
    none = nothing_told s.history refl;
    others = λ x ne. refl;
    own = λ live. refl;
  }
  idle_or_waits None waits =
      ruled (is_tick m.limits (counted.numbers i).turns) (nat_lt 0 (counted.numbers i).delay)
      (ap (λ (n : Numbers). nat_lt 0 n.delay) (at_put_same s.numbers i _) ∙ waits)

turn_rests : (m : Setting) (i : ℕ) (s : State) → nat_lt 0 (s.numbers i).delay ≡ true
    → Rests m i (event.Turn i) s (happen m (event.Turn i) s)
unfolding happen turn
turn_rests m i s waits = idle_or_waits m i (event.Turn i) s (idle m s i) waits

pub waiting_rests : (m : Setting) (e : Event) (s : State) → Waits s e
    → Rests m (cpu_of_event e) e s (happen m e s)
waiting_rests m (event.Turn i) s waits = turn_rests m i s waits
waiting_rests m (event.External i) s waits = absurd (let x : false ≡ true = waits in cc)

-- it has no conflict
pub no_conflict : (m : Setting) (e : Event) (s : State) → Waits s e → conflicts_in m s e ≡ []
unfolding conflicts_in
no_conflict m e s waits = (waiting_rests m e s waits).none
