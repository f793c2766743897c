-- When an answer fits into its number: the record of a refusal is below 2^32, and the numbers of a tally are below 2^31. No public promise mentions it.
-- Assumes nothing.
use Rattle.std.specs.Prelude.{◌^◌, ◌<◌, Result, MatchResult, IfErr}
use Rattle.netlist.specs.declared.refusal.Refused.{Refused}
use Rattle.care.specs.declared.Tally.{Tally}

abbrev pub RecordFits : Refused → Type 0
RecordFits r = r.at < 2 ^ 32

abbrev pub TallyFits : Tally → Type 0
TallyFits t = (t.widths < 2 ^ 31) × (t.ones < 2 ^ 31)

-- An answer with a tally, and one whose accepted case fits whatever it is.
abbrev pub TalliedFits : Result Tally Refused → Type 0
TalliedFits answer = MatchResult answer TallyFits RecordFits

abbrev pub RefusalFits : {A : Type 0} → Result A Refused → Type 0
RefusalFits answer = IfErr answer RecordFits
