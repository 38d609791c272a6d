mod DumpLemmas
mod EachLemmas
mod WithinLemmas
mod MinidumpLemmas
mod HeadLemmas
mod OrderLemmas
mod ThreadNameLemmas
