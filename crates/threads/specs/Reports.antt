-- What Play reports.
use Rattle.reports.specs.declared.report.Report.{Report}
use Rattle.reports.specs.Reports.{report}
use Rattle.threads.specs.Plays.{Played}

abbrev pub reported : Played → Report
reported r = report r.outcome r.counts
