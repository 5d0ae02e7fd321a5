use Rattle.std.proofs.Common.{◌≡◌, ◌∙◌, Bool, true, false, cond, eqb, Some, None, refl, ap}
use Rattle.std.specs.Prelude.{◌&&◌}
use Rattle.line_table.specs.declared.table.Mode.TheVariants.{Shared, Exclusive}
use Rattle.line_table.specs.Holders.{Holders, holding, is_against, mode_in}
use Rattle.line_table.proofs.Against.{nobody_against}
use Rattle.line_copies.specs.Seen.{holders_in}
use Rattle.cache_cases.proofs.lines.seen.Goals as goal

pub grant-requires-clause-free : goal.grant-requires-clause-free
grant-requires-clause-free c =
    nobody_against c.in_ok-lines.lines.cpus (holders_in c.in_ok-lines.lines) 0 144 Exclusive
    (λ other _ _. ap (λ (h : Holders). is_against Exclusive (h other 144)) c.in_ok-lines.ensures.nobody)

-- whether the other is CPU 0 or not, it does not stand against a shared request
quiet : (own : Bool)
    → is_against Shared (cond (own && true) (Some Shared) (cond (own && true) (Some Exclusive) None)) ≡ false
quiet true = refl
quiet false = refl

pub grant-requires-2-clause-free : goal.grant-requires-2-clause-free
grant-requires-2-clause-free c =
    let counted = ap mode_in c.count_up_at-2.ensures ∙ ap mode_in c.count_up_at.ensures
    ∙ c.grant.ensures.held
    ∙ ap (λ (h : Holders). holding h 0 144 (Some Exclusive)) c.in_ok-lines.ensures.nobody in
    let now = c.demote.ensures.held ∙ ap (λ (h : Holders). holding h 0 144 (Some Shared)) counted in
    nobody_against c.demote.new.self.cpus (holders_in c.demote.new.self) 1 144 Shared
    (λ other _ _. ap (λ (h : Holders). is_against Shared (h other 144)) now ∙ quiet (eqb other 0))
