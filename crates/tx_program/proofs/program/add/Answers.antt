-- The new number is that of the new instruction.
use Rattle.std.proofs.Common.{◌≡◌, ℕ, ◌*◌, ◌/◌, ◌+◌, ◌++◌, ◌∷◌, [], List, length, set, sym, subst, arith}
use Rattle.std.specs.FinSet.{items}
use Rattle.tx_program.specs.declared.ready.Ready.{Ready}
use Rattle.tx_program.specs.Shapes.{IsReady}
use Rattle.tx_program.specs.Numbered.{AreRead}
use Rattle.tx_program.proofs.Numbers.{one_read}
use Rattle.tx_program.proofs.program.add.Goals as goal

pub returns : goal.returns
returns c =
    let text = items c.args.guard.now in
    let half : ℕ = c.args.start / 2 in
    let place : 2 * half ≡ c.args.start = omega (arith, c.if-place-eq1.false) in
    let readies : c.push.new.self.items ≡ c.args.readies.now.items ++ c.in-Some.ready ∷ [] = c.in_ok-push.ensures.items in
    let number : c.len-2.result ≡ length c.args.readies.now.items + 1 =
    omega (arith, c.len-2.ensures, c.in_ok-push.ensures.len) in
    let this : IsReady c.args.storage.now text (2 * half) c.in-Some.ready =
    subst (λ n. IsReady c.args.storage.now text n c.in-Some.ready) (sym place) c.in-Some.ensures in
    subst (λ (xs : List Ready). AreRead c.args.storage.now text
    (set c.args.numbers.now.items half c.len-2.result) xs) (sym readies)
    (subst (λ n. AreRead c.args.storage.now text (set c.args.numbers.now.items half n)
    (c.args.readies.now.items ++ c.in-Some.ready ∷ [])) (sym number)
    (one_read c.args.storage.now text c.args.numbers.now.items c.args.readies.now.items c.in-Some.ready half
    c.requires.read (omega (arith, c.requires.read.size, c.if-place-storage.false, c.requires.size, place)) this))
