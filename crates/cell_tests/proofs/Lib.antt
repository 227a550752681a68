pub mod MemberSorts
