-- Which answers come: by whether there is a conflict and whether the holder may reject.
use Rattle.std.proofs.Common.{◌≡◌, ◌≢◌, Bool, true, false, ◌&&◌, not, refl, ap}
use Rattle.std.specs.Prelude.{◌↔◌, if◌then◌else◌}
use Rattle.std.proofs.lemmas.Bool.{and_right, and_left}
use Rattle.tx_control.specs.declared.causes.Why.{Why}
use Rattle.tx_ladder.specs.Rungs.{Standing, may_reject}
use Rattle.interrogate.specs.declared.kinds.Answer.{Answer}
use Rattle.interrogate.specs.declared.kinds.Answer.TheVariants.{Yields, Rejects, Aborts}
use Rattle.interrogate.specs.declared.kinds.Asker.{Asker}
use Rattle.interrogate.specs.Replies.{may_hold_out}

abbrev pub chosen : Bool → Bool → Why → Answer
chosen conflict firm why = if not conflict then Yields else (if firm then Rejects else Aborts why)

pub yields_iff : (conflict firm : Bool) (why : Why) → (chosen conflict firm why ≡ Yields) ↔ (conflict ≡ false)
yields_iff true true why = (λ e. cc, λ e. cc)
yields_iff true false why = (λ e. cc, λ e. cc)
yields_iff false firm why = (λ e. refl, λ e. refl)

pub never_rejects : (conflict firm : Bool) (why : Why) → firm ≡ false → chosen conflict firm why ≢ Rejects
never_rejects true true why e = λ r. cc
never_rejects true false why e = λ r. cc
never_rejects false firm why e = λ r. cc

pub not_the_head : (standing : Standing) (asker : Asker) → asker.head ≡ true →
    may_hold_out standing asker ≡ false
not_the_head standing asker head =
    and_right (may_reject standing) (not asker.head && not (asker.late && not standing.constrained))
    (and_left (not asker.head) (not (asker.late && not standing.constrained)) (ap not head))

pub not_a_late_one : (standing : Standing) (asker : Asker) → asker.late ≡ true →
    standing.constrained ≡ false → may_hold_out standing asker ≡ false
not_a_late_one standing asker late unconstrained =
    and_right (may_reject standing) (not asker.head && not (asker.late && not standing.constrained))
    (and_right (not asker.head) (not (asker.late && not standing.constrained))
    (λ i. not (late i && not (unconstrained i))))
