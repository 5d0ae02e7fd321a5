use Rattle.std.proofs.Common.{ap, sym, ◌∙◌, [], append-nil, Some, None, cond}
use Rattle.z_fields.specs.Data.{prepend}
use Rattle.z_fields.proofs.Bytes.{pair_on, no_pair, pairs_end}
use Rattle.z_fields.proofs.data.pairs_of.Goals as goal

pub loop-rest-preserved : goal.loop-rest-preserved
loop-rest-preserved c =
    rw (c.in_ok-push.ensures.items, c.split_at.ensures.back)
    (pair_on c.loop-rest.bytes.items c.loop-rest.rest.now c.in-Some.byte c.loop-rest-test.true
    (sym c.byte_of.ensures ∙ c.in-Some.is) ∙ c.loop-rest.invariant)

pub returns-in_default : goal.returns-in_default
returns-in_default c =
    sym (ap (prepend c.loop-rest.bytes.items)
    (no_pair c.loop-rest.rest.now c.loop-rest-test.true (sym c.byte_of.ensures ∙ c.in_default.is)))
    ∙ c.loop-rest.invariant

pub returns-then-is_quote : goal.returns-then-is_quote
returns-then-is_quote c =
    let e = pairs_end c.loop-rest.rest.now c.loop-rest-test.false
    ∙ ap (λ b. cond b (Some []) None) (sym c.is_quote.ensures ∙ c.if-is_quote.true) in
    ap Some (sym (append-nil c.loop-rest.bytes.items))
    ∙ (sym (ap (prepend c.loop-rest.bytes.items) e) ∙ c.loop-rest.invariant)

pub returns : goal.returns
returns c =
    let e = pairs_end c.loop-rest.rest.now c.loop-rest-test.false
    ∙ ap (λ b. cond b (Some []) None) (sym c.is_quote.ensures ∙ c.if-is_quote.false) in
    sym (ap (prepend c.loop-rest.bytes.items) e) ∙ c.loop-rest.invariant
