use Rattle.ws_commands.proofs.change_laws.copies_change_the_copied_names.Goals as goal

pub returns-clause-names : goal.returns-clause-names
returns-clause-names c = c.merging_changes_the_copied_names.ensures.names

pub returns-clause-marks : goal.returns-clause-marks
returns-clause-marks c = c.merging_changes_the_copied_names.ensures.marks
