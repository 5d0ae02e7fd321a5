use Rattle.std.proofs.Common.{◌+◌, ◌∙◌, ap, sym}
use Rattle.bit_set.specs.Bits.{lies_in}
use Rattle.tx_marks.proofs.RunsPlaced.{among_run}
use Rattle.std.specs.Prelude.{◌||◌, nat_eq}
use Rattle.z_regs.specs.Prefix.{absolute_of}
use Rattle.tx_marks.specs.Traces.{Traces, is_stored}
use Rattle.tx_lending.specs.Places.{is_among}
use Rattle.tx_marks.proofs.BytesTouched.{up_marked}
use Rattle.tx_marks.proofs.traces.Traces.mark_stores.Goals as goal

pub loop-k-preserved : goal.loop-k-preserved
loop-k-preserved c = record {
  pages = c.mark_store.ensures.pages ∙ c.loop-k.invariant.pages;
  marks = λ a. up_marked (nat_eq a) c.args.prefix c.args.first c.loop-k.k (is_stored c.args.self.now a)
      (is_stored c.loop-k.self a) (is_stored c.mark_store.new.self a) (c.loop-k.invariant.marks a)
      (c.mark_store.ensures.stored a ∙ ap (λ p. is_stored c.loop-k.self a || nat_eq a p) (c.place_of.ensures
      ∙ ap (λ k. absolute_of c.args.prefix (c.args.first + k)) c.from-in-loop-k.ensures));
}

pub returns-then-stay-clause-stored : goal.returns-then-stay-clause-stored
returns-then-stay-clause-stored c = λ a.
    c.insert_run.ensures.marks a
    ∙ ap (λ (t : Traces). is_stored t a || lies_in c.args.first (c.args.first + c.from.result) a) c.self.view_is
    ∙ ap (λ end. is_stored c.args.self.now a || lies_in c.args.first end a)
    (ap (λ n. c.args.first + n) c.from.ensures)
    ∙ ap (λ b. is_stored c.args.self.now a || b) (sym (among_run c.args.first c.args.length a)
    ∙ ap (λ places. is_among places a) (sym (c.stay.ensures c.if-stay.true)))
