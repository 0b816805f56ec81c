use mathlib.Core.Path.{◌≡◌}
use Prim.Native.Nat.{◌+◌}
use lib.ListN.{length, take}
use lib.Seq.{sets}
use Rattle.report.proofs.page.Page.put.Given as goal

abbrev pub invariant-loop-i : goal.invariant-loop-i
invariant-loop-i l =
    record {
      bytes : l.self.out.now ≡ sets l.initial.self.out.now l.at (take l.i l.text);
      behind : l.self.at ≡ l.at + length l.text;
      same_buffer : l.self.out.ghost_name ≡ l.initial.self.out.ghost_name;
    }
