-- The byte account (document 01, "The byte account"), each count modulo 2^32. Assumes nothing.
use Rattle.std.specs.Prelude.{ℕ, zero, suc, ◌+◌, ◌%◌, ◌^◌}
use Rattle.ucp_frame.specs.Stretch.{Verdict, silent, refused, delivered}
use Rattle.ucp_receiver.specs.declared.Counts.{Counts}

abbrev pub zero_counts : Counts
zero_counts = record { flags = 0; delivered = 0; refused = 0; skipped = 0; unclosed = 0 }

abbrev pub plus : ℕ → ℕ → ℕ
plus count n = (count + n) % 2 ^ 32

-- at a flag, by the answer
abbrev pub counted_flag : Verdict → Counts → Counts
counted_flag silent c =
    record { flags = plus c.flags 1; delivered = c.delivered; refused = c.refused; skipped = c.skipped; unclosed = 0 }
counted_flag (refused number) c =
    record { flags = plus c.flags 1; delivered = c.delivered; refused = plus c.refused c.unclosed; skipped = c.skipped; unclosed = 0 }
counted_flag (delivered body) c =
    record { flags = plus c.flags 1; delivered = plus c.delivered c.unclosed; refused = c.refused; skipped = c.skipped; unclosed = 0 }

-- at any other octet: before the first flag, and since the last one
abbrev pub counted_skipped : Counts → Counts
counted_skipped c =
    record { flags = c.flags; delivered = c.delivered; refused = c.refused; skipped = plus c.skipped 1; unclosed = c.unclosed }

abbrev pub counted_open : Counts → Counts
counted_open c =
    record { flags = c.flags; delivered = c.delivered; refused = c.refused; skipped = c.skipped; unclosed = plus c.unclosed 1 }

-- n octets, each counted alike
abbrev pub repeated : (Counts → Counts) → ℕ → Counts → Counts
repeated counted zero c = c
repeated counted (suc n) c = counted (repeated counted n c)
