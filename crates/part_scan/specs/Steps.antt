-- What a page is to a scan, without the records.
use Rattle.request_rules.specs.declared.scanning.ScanStep.{ScanStep}
use Rattle.request_rules.specs.declared.scanning.ScanStep.TheVariants as step
use Rattle.part_scan.specs.declared.scan.PageStep.{PageStep}
use Rattle.part_scan.specs.declared.scan.PageStep.TheVariants as kind

-- the step, without what it tells of records
abbrev pub kind_of : ScanStep → PageStep
kind_of step.Spent = kind.Spent
kind_of step.Again = kind.Again
kind_of (step.More count) = kind.More
kind_of (step.Whole records) = kind.Whole
