-- What a section's answer says, in the definitions' terms: what was read, and how the section ends.
-- Assumes nothing.
use Rattle.rules.specs.Reading.{Section}
use Rattle.records.specs.Said.{end_said}
use Rattle.sections.specs.declared.section.SectionRead.{SectionRead}

abbrev pub section_said : {B : Type 0} → SectionRead B → Section B
section_said r = record { read = r.read; end = end_said r.end }
