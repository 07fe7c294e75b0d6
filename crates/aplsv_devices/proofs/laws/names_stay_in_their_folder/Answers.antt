use Rattle.aplsv_devices.proofs.Inside.{file_stays, name_stays}
use Rattle.aplsv_devices.proofs.laws.names_stay_in_their_folder.Goals as goal

pub returns-clause-saved : goal.returns-clause-saved
returns-clause-saved c = name_stays

pub returns-clause-files : goal.returns-clause-files
returns-clause-files c = file_stays
