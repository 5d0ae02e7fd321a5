-- The conflict aborts of a CPU's constrained transaction, counted in a history.
use Rattle.std.specs.Prelude.{ℕ, ◌+◌, Bool, ◌&&◌, ◌==◌, if◌then◌else◌, List, [], ◌∷◌, Option, Some, None}
use Rattle.tx_control.specs.Nesting.{is_constrained}
use Rattle.tx_control.specs.declared.causes.Why.{Why}
use Rattle.tx_control.specs.declared.causes.Why.TheVariants.{External, Program, FetchConflict}
use Rattle.tx_control.specs.declared.causes.Why.TheVariants.{StoreConflict, FetchOverflow, StoreOverflow}
use Rattle.tx_control.specs.declared.causes.Why.TheVariants.{Restricted, Filtered, Depth, Starved, Tabort}
use Rattle.tx_serial.specs.Content.{Content}
use Rattle.tx_serial.specs.Entry.{Entry}
use Rattle.tx_serial.specs.Entry.TheVariants.{Step, Commit, Abort, Tdb, Interrupt}
use Rattle.tx_serial.specs.Flat.{FlatState}
use Rattle.tx_serial.specs.Run.{run}
use Rattle.tx_serial.specs.Apply.{apply}
use Rattle.tx_serial.specs.History.{start_of, on_some}

-- the attempt that the CPU makes next, or is in, begins with TBEGINC
abbrev pub tries_constrained : FlatState → ℕ → Bool
tries_constrained f i = is_constrained (run f i 1).nest

-- what an abort of a constrained attempt makes of the count: conflicts are counted, a program interruption
-- ends
-- the transaction
abbrev pub hits_by : Why → ℕ → ℕ
hits_by (FetchConflict line) hits = hits + 1
hits_by (StoreConflict line) hits = hits + 1
hits_by Starved hits = hits + 1
hits_by (Program e) hits = 0
hits_by External hits = hits
hits_by FetchOverflow hits = hits
hits_by StoreOverflow hits = hits
hits_by Restricted hits = hits
hits_by (Filtered e) hits = hits
hits_by Depth hits = hits
hits_by (Tabort code) hits = hits

-- what an entry makes of a CPU's count, in the flat state before it
abbrev pub hits_after : ℕ → FlatState → Entry → ℕ → ℕ
hits_after i f (Commit j n) hits = if j == i && tries_constrained f i then 0 else hits
hits_after i f (Abort j n why) hits = if j == i && tries_constrained f i then hits_by why hits else hits
hits_after i f (Step j) hits = hits
hits_after i f (Tdb j) hits = hits
hits_after i f (Interrupt j) hits = hits

abbrev pub hits_where : ℕ → Option FlatState → Entry → ℕ → ℕ
hits_where i None entry hits = hits
hits_where i (Some f) entry hits = hits_after i f entry hits

unfoldable pub hits_from : ℕ → List Entry → Option FlatState → ℕ → ℕ
hits_from i [] state hits = hits
hits_from i (entry ∷ rest) state hits =
    hits_from i rest (on_some (λ f. apply f entry) state) (hits_where i state entry hits)

-- the conflict aborts of a CPU since its last constrained transaction ended
abbrev pub hits : Content → List Entry → ℕ → ℕ
hits image history i = hits_from i history (Some (start_of image)) 0
