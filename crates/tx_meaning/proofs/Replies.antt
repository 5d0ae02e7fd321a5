-- What a holder can answer.
use Rattle.std.proofs.Common.{◌≡◌, ℕ, Bool, true, false, refl}
use Rattle.std.specs.Prelude.{not, if◌then◌else◌}
use Rattle.line_table.specs.declared.table.Mode.{Mode}
use Rattle.tx_control.specs.declared.causes.Why.{Why}
use Rattle.tx_ladder.specs.Rungs.{Standing}
use Rattle.interrogate.specs.declared.kinds.Answer.{Answer}
use Rattle.interrogate.specs.declared.kinds.Answer.TheVariants.{Yields, Rejects, Aborts}
use Rattle.interrogate.specs.declared.kinds.Asker.{Asker}
use Rattle.interrogate.specs.Replies.{Lines, conflicts, may_hold_out, cause_at, reply}

answered : (T : Answer → Type 0) (conflict holds_out : Bool) (why : Why) → T Yields
    → (conflict ≡ true → holds_out ≡ true → T Rejects) → (conflict ≡ true → holds_out ≡ false
    → T (Aborts why))
    → T (if not conflict then Yields else (if holds_out then Rejects else Aborts why))
answered T false holds_out why yields rejects aborts = yields
answered T true true why yields rejects aborts = rejects refl refl
answered T true false why yields rejects aborts = aborts refl refl

-- there is a conflict with live attempts alone
pub conflicts_live : (live : Bool) (fetched stored : Lines) (line : ℕ) (mode : Mode)
    → conflicts live fetched stored line mode ≡ true → live ≡ true
conflicts_live true fetched stored line mode h = refl
conflicts_live false fetched stored line mode h = let n : false ≡ true = h in cc

-- a holder yields; or it has a live attempt, and rejects where it may, or is aborted where it may not
pub replied : (T : Answer → Type 0) (live : Bool) (fetched stored : Lines) (standing : Standing) (line : ℕ)
    (mode : Mode) (asker : Asker) → T Yields
    → (live ≡ true → may_hold_out standing asker ≡ true → T Rejects)
    → (live ≡ true → may_hold_out standing asker ≡ false → T (Aborts (cause_at stored line)))
    → T (reply live fetched stored standing line mode asker)
unfolding reply
replied T live fetched stored standing line mode asker yields rejects aborts =
    let live_in = conflicts_live live fetched stored line mode in
    answered T (conflicts live fetched stored line mode) (may_hold_out standing asker) (cause_at stored line)
    yields
    (λ conflict holds. rejects (live_in conflict) holds)
    (λ conflict yields_to. aborts (live_in conflict) yields_to)
