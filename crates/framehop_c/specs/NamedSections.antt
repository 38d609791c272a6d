-- The sections of a module by name, those of PE files before the others.
use Rattle.std.specs.Prelude.{ℕ, List, [], ◌∷◌, None, codes}
use Rattle.std.specs.Borrow.{Bor}
use Rattle.framehop_bytes.specs.SectionTable.{SectionTable}
use Rattle.framehop_bytes.specs.ExplicitSections.{table_of, under}
use Rattle.framehop_c.specs.declared.sections.NamedSections.{NamedSections}

-- the sections by their names: `.pdata` and its kin, then the others
abbrev pub named_table : NamedSections → SectionTable (Bor (List ℕ))
named_table named =
    let others = table_of named.others in
    record others {
      sections =
          under (codes ".pdata" ∷ []) None named.pdata
          ∷ under (codes ".rdata" ∷ []) named.rdata_svma named.rdata
          ∷ under (codes ".xdata" ∷ []) named.xdata_svma named.xdata
          ∷ others.sections;
    }
