-- What `Analysed` of each architecture and the laws of the traits import: the steps of the analysis; the rule that it
-- finds, constructed with the proof that it is the only one (`analysed` is this rule); what the rule does.
pub mod Answer
pub mod Aarch64
pub mod X86_64
