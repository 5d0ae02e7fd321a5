use Rattle.std.proofs.Common.{◌≡◌, ◌≤◌, ◌+◌, ◌-◌, length, drop}
use Rattle.z_fields.specs.Pieces.{pieces_by}
use Rattle.z_reading.specs.Listing.{plan_of}
use Rattle.z_assemble.specs.Whole.{first_over}
use Rattle.z_assemble.proofs.whole.first_over.Given as goal

abbrev pub invariant-loop-rest : goal.invariant-loop-rest
invariant-loop-rest l = record {
  count : l.number + length (pieces_by 10 l.rest) ≡ 1 + length (pieces_by 10 l.fn.draft.works.text.now);
  same : first_over l.number (pieces_by 10 l.rest) (plan_of l.draft) ≡ first_over 1
      (pieces_by 10 l.fn.draft.works.text.now) (plan_of l.fn.draft);
  size : length l.rest ≤ length l.fn.draft.works.text.now;
  place : drop (length l.fn.draft.works.text.now - length l.rest) l.fn.draft.works.text.now ≡ l.rest;
  text : l.draft.works.text.now ≡ l.fn.draft.works.text.now;
}

abbrev pub decreases-loop-rest : goal.decreases-loop-rest
decreases-loop-rest l = length l.rest
