-- A legal history leaves what is shown.
use Rattle.std.proofs.Common.{◌≡◌, ℕ, false, Some, ap, ◌∙◌}
use Rattle.std.specs.Prelude.{nat_lt}
use Rattle.tx_serial.specs.Flat.{FlatState}
use Rattle.tx_serial.specs.History.{IsLegal, replay}
use Rattle.tx_serial.specs.Run.{run}
use Rattle.tx_progress.proofs.Parts.{not_live}
use Rattle.tx_meaning.specs.Limits.{Setting}
use Rattle.tx_meaning.specs.State.{State, flat_of, flat_where}
use Rattle.run_answers.specs.Replayed.{IsReplayed}

-- a CPU that has completed nothing is at rest
at_rest_by : (f : FlatState) (i n : ℕ) → nat_lt 0 n ≡ false → (run f i n).cpu ≡ f.cpus i
unfolding run
at_rest_by f i n off = ap (λ k. (run f i k).cpu) (not_live n off)

flat_is : (m : Setting) (s : State) (f : FlatState) → replay m.image s.history ≡ Some f → flat_of m s ≡ f
unfolding flat_of
flat_is m s f is = ap (flat_where m) is

pub replayed : (m : Setting) (s : State) → IsLegal m.image s.history → IsReplayed m s
replayed m s legal =
    let f = legal.after in
    let is = flat_is m s f legal.replayed in
    record {
      after = f;
      replayed = legal.replayed;
      storage = ap (λ (g : FlatState). g.storage) is;
      pending = ap (λ (g : FlatState). g.pending) is;
      waiting = ap (λ (g : FlatState). g.waiting) is;
      cpus = λ i off.
          ap (λ g. (run g i (s.numbers i).completed).cpu) is ∙ at_rest_by f i (s.numbers i).completed off;
    }
