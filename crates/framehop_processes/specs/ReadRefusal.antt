-- Why a file is not given, in words.
use Rattle.std.specs.Prelude.{ℕ, List, codes}
use Rattle.framehop_processes.specs.declared.read_refusal.ReadRefusal.{ReadRefusal}
use Rattle.framehop_processes.specs.declared.read_refusal.ReadRefusal.TheVariants.{NotThere, Deleted, NotRegular, Outside, ManyNames, NotUtf8, Refused}

abbrev pub refusal_text : ReadRefusal → List ℕ
refusal_text NotThere = codes "there is no such file"
refusal_text Deleted = codes "it was deleted, and no build id tells its copies"
refusal_text NotRegular = codes "it is no regular file, or it is empty"
refusal_text Outside = codes "it is not below the root, or the kernel makes it up"
refusal_text ManyNames = codes "it was read by too many other names"
refusal_text NotUtf8 = codes "its name is not UTF-8"
refusal_text Refused = codes "it can't be read"
