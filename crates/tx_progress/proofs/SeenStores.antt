-- Storage that stores were laid over is storage seen through their overlay.
use Rattle.std.proofs.Common.{◌≡◌, ℕ, Bool, true, false, List, [], ◌∷◌, ◌++◌, Some, refl, sym, ap}
use Rattle.std.proofs.Common.{◌∙◌}
use Rattle.std.specs.Prelude.{if◌then◌else◌, ◌==◌, unwrap_or}
use Rattle.std.proofs.lemmas.List.Sums.{fold-append}
use Rattle.tx_serial.specs.Overlay.{Overlay, Store, nothing, with_one, overlay_of}
use Rattle.tx_serial.specs.Flat.{Storage, FlatState, at_put, laid_over}
use Rattle.tx_serial.specs.Run.{run}
use Rattle.tx_serial.proofs.Copies.{run_copy}
use Rattle.tx_progress.specs.Progress.{laying, seen_through}
use Rattle.tx_progress.specs.Reached.{progress_of}

seen_one : (overlay : Overlay) (s : Storage) (at byte : ℕ)
    → at_put (seen_through overlay s) at byte ≡ seen_through (with_one overlay at byte) s
seen_one overlay s at byte i a = by (a == at) i
  where
    by : (b : Bool) → (if b then byte else unwrap_or (overlay a) (s a))
        ≡ unwrap_or (if b then Some byte else overlay a) (s a)
    by true = refl
    by false = refl

pub laid_through : (stores : List Store) (overlay : Overlay) (s : Storage)
    → laid_over (seen_through overlay s) stores ≡ seen_through (laying overlay stores) s
unfolding laid_over
laid_through [] overlay s = refl
laid_through (x ∷ rest) overlay s =
    ap (λ t. laid_over t rest) (seen_one overlay s x.address x.byte)
    ∙ laid_through rest (with_one overlay x.address x.byte) s

pub laid_is_seen : (stores : List Store) (s : Storage) → laid_over s stores
    ≡ seen_through (overlay_of stores) s
laid_is_seen stores s = laid_through stores nothing s

pub laying_more : (xs ys : List Store) → laying (overlay_of xs) ys ≡ overlay_of (xs ++ ys)
laying_more xs ys = sym (fold-append (λ o (x : Store). with_one o x.address x.byte) nothing xs ys)

-- the copy of a run
pub run_seen : (f : FlatState) (i k : ℕ)
    → (run f i k).copy ≡ seen_through (overlay_of (run f i k).stores) f.storage
run_seen f i k = run_copy f i k ∙ laid_is_seen (run f i k).stores f.storage

pub progress_seen : (f : FlatState) (i k : ℕ)
    → (run f i k).copy ≡ seen_through (progress_of (run f i k)).overlay f.storage
unfolding progress_of
progress_seen f i k = run_seen f i k
